-- Lists without repeats.
use mathlib.Core.Path.{◌≡◌, refl, sym}
use mathlib.Core.List.Memᴰ
use mathlib.Core.List.Permᴰ
use mathlib.Core.List.{List, [], ◌∷◌, Memᴰ, Permᴰ}
use Rattle.order.specs.Pairs.{more, Distinct, SameMembers}
use Rattle.order.proofs.Members.{perm-mem}
use Rattle.order.proofs.Pairs.{perm-pairs}

module _ {A : Type 0} where
  pub distinct-perm : {l m : List A} → Permᴰ l m → Distinct l → Distinct m
  distinct-perm = perm-pairs (λ x y h e. h (sym e))

  -- a member put first
  pub perm-pick : {x : A} {l : List A} → Memᴰ x l → (m : List A) × Permᴰ l (x ∷ m)
  perm-pick (Memᴰ.head {xs = xs} e) = (xs, Permᴰ.cons (sym e) (Permᴰ.refl xs))
  perm-pick (Memᴰ.tail {x = y} n) = let r = perm-pick n in (y ∷ r.0, Permᴰ.trans (Permᴰ.cons refl r.1) (Permᴰ.swap refl refl))

  -- behind a head that does not come again
  behind : {x y : A} {m : List A} → (x ≡ y → ⊥) → Memᴰ y (x ∷ m) → Memᴰ y m
  behind h (Memᴰ.head e) = absurd (h (sym e))
  behind h (Memᴰ.tail n) = n

  -- two lists without repeats that have the same members are permutations
  pub distinct-same : (l m : List A) → Distinct l → Distinct m → SameMembers l m → Permᴰ l m
  distinct-same [] [] d e s = Permᴰ.nil
  distinct-same [] (y ∷ ys) d e s = absurd (Memᴰ.not-nil ((s y).1 (Memᴰ.head refl)))
  distinct-same (x ∷ xs) m (more f d) e s = go (perm-pick ((s x).0 (Memᴰ.head refl))) (λ n p q. distinct-same xs n d p q)
    where
      go : (n : List A) × Permᴰ m (x ∷ n) → ((n : List A) → Distinct n → SameMembers xs n → Permᴰ xs n) → Permᴰ (x ∷ xs) m
      go (n, p) ih = first (distinct-perm p e)
        where
          first : Distinct (x ∷ n) → Permᴰ (x ∷ xs) m
          first (more g q) =
              Permᴰ.trans
              (Permᴰ.cons refl
              (ih n q
              (λ y.
              (λ k. behind (f y k) (perm-mem p ((s y).0 (Memᴰ.tail k))), λ k. behind (g y k) ((s y).1 (perm-mem (Permᴰ.symm p) (Memᴰ.tail k)))))))
              (Permᴰ.symm p)
