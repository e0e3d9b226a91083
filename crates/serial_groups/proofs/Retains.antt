-- The retained rank is the one that the group retains, and no other.
use mathlib.Core.Path.{◌≡◌, refl, subst}
use mathlib.Core.Logic.{◌↔◌, ◌⊎◌, inl, inr, ⊎_elim}
use mathlib.Core.List.Memᴰ
use mathlib.Core.List.{List, [], ◌∷◌, Memᴰ}
use Prim.Native.Nat.{ℕ, ◌<◌, ◌≤◌}
use native.Mathlib.Omega.{arith}
use lib.ListN.{get_or}
use Rattle.order.specs.Sorting.{sort}
use Rattle.order.specs.Pairs.{Pairs, more}
use Rattle.serial_links.specs.Limits.{Limits}
use Rattle.context.specs.Listing.{Item}
use Rattle.serial_groups.specs.Representative.{eligible, retained, IsRetained}
use Rattle.serial_groups.specs.Retains.{Retains}
use Rattle.serial_groups.proofs.Representative.{retained-mem, retained-is}

-- a list has no member or one
empty-or : {A : Type 0} (l : List A) → (l ≡ []) ⊎ ((x : A) × Memᴰ x l)
empty-or [] = inl refl
empty-or (x ∷ xs) = inr (x, Memᴰ.head refl)

-- the first of ascending numbers is the least
first-of-all : (is : List ℕ) (d : ℕ) → Pairs (λ i j. i < j) is → {j : ℕ} → Memᴰ j is → get_or is 0 d ≤ j
first-of-all [] d _ {j = j} x3 = elim x3 [ ]
first-of-all (x ∷ xs) d (more f p) (Memᴰ.head e) = omega arith
first-of-all (x ∷ xs) d (more f p) {j} (Memᴰ.tail m) = let h = f j m in omega arith

module _ (limits : Limits) (l : List Item) (is : List ℕ) (rising : Pairs (λ i j. i < j) is) {x : ℕ} (some : Memᴰ x is) where
  -- where none is eligible the first rank is retained
  none-eligible : eligible limits l is ≡ [] → retained limits l is ≡ get_or is 0 0
  unfolding retained sort
  none-eligible e = rw e refl

  retained-retains : Retains limits l is (retained limits l is)
  retained-retains = record {
    mine = retained-mem limits l is some;
    named = λ j m. retained-is limits l is rising m;
    earliest = λ f j m.
        ⊎_elim (λ (e : eligible limits l is ≡ []). rw (none-eligible e) (first-of-all is 0 rising m))
        (λ (w : (y : ℕ) × Memᴰ y (eligible limits l is)). absurd (f w.0 w.1)) (empty-or (eligible limits l is));
  }

  one-named : (i j : ℕ) → IsRetained limits l is i → IsRetained limits l is j → i ≤ j
  one-named i j p q = p.earliest j q.chosen (q.least i p.chosen)

  one-retains : (i j : ℕ) → Retains limits l is i → Retains limits l is j → i ≤ j
  one-retains i j p q =
      ⊎_elim (λ (e : eligible limits l is ≡ []). p.earliest (λ y m. nobody e m) j q.mine)
      (λ (w : (y : ℕ) × Memᴰ y (eligible limits l is)). one-named i j (p.named w.0 w.1) (q.named w.0 w.1))
      (empty-or (eligible limits l is))
    where
      nobody : {y : ℕ} → eligible limits l is ≡ [] → Memᴰ y (eligible limits l is) → ⊥
      nobody e m = Memᴰ.not-nil (rw e at m)

  pub retains-iff : (i : ℕ) → Retains limits l is i ↔ (retained limits l is ≡ i)
  retains-iff i = (
    λ w. let p = one-retains i (retained limits l is) w retained-retains in let q = one-retains (retained limits l is) i retained-retains w in omega arith,
    λ e. subst (λ (j : ℕ). Retains limits l is j) e retained-retains,
  )
