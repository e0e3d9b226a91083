-- The next region is the least above: no region between gives a link.
use mathlib.Core.Path.{◌≡◌, refl, subst}
use mathlib.Core.Logic.{⊎_elim, by_cases}
use mathlib.Core.Bool.{Bool, true, false, cond, not, ◌&&◌, ◌||◌}
use mathlib.Core.List.{List, [], ◌∷◌, ◌++◌}
use Prim.Native.Nat.{ℕ, zero, suc, ◌-◌, ◌<◌, ◌≤◌}
use native.Mathlib.Omega.{arith}
use native.Mathlib.Decide.{ℕ_discrete}
use borrow.Author.Tests.{eqb-true, eqb-false, ltb-true, ltb-false, not-true}
use lib.Dec.{eqb, ltb}
use lib.ListN.{length, get_or, length-append}
use Rattle.order.proofs.Bools.{and_parts, or_cases}
use Rattle.order.proofs.Members.{get_d-mem}
use Rattle.graph.specs.Records.{Record, record_in}
use Rattle.serial_candidates.specs.Owners.{in_record, OwnersBelow}
use Rattle.serial_candidates.specs.Touchers.{touching_after, touchers}
use Rattle.serial_candidates.specs.Next.{lesser_above, next_after}
use Rattle.serial_candidates.specs.Gives.{has_region}
use Rattle.serial_candidates.proofs.ToucherLaws.{told, toucher-touches}

-- what is lesser_above: above, no more than before, and no more than the number if that is above
record Nearer (after b x c : ℕ) : Type 0 where
  kept : 0 < b → (0 < c) × (c ≤ b)
  less : after < x → (0 < c) × (c ≤ x)
  above : (0 < b → after < b) → 0 < c → after < c

is-nearer : (after b x : ℕ) → Nearer after b x (lesser_above after b x)
is-nearer after b x = go (ltb after x) refl (eqb b 0) refl (ltb x b) refl
  where
    go : (p : Bool) → ltb after x ≡ p → (q : Bool) → eqb b 0 ≡ q → (s : Bool) → ltb x b ≡ s → Nearer after b x (cond (p && (q || s)) x b)
    go true e true f s g = let a = ltb-true after x e in let z = eqb-true b 0 f in
        record { kept = λ h. absurd (omega arith); less = λ h. (omega arith, omega arith); above = λ h k. a }
    go true e false f true g = let a = ltb-true after x e in let z = ltb-true x b g in
        record { kept = λ h. (omega arith, omega arith); less = λ h. (omega arith, omega arith); above = λ h k. a }
    go true e false f false g = let a = ltb-true after x e in let y = eqb-false b 0 f in let z = ltb-false x b g in
        record { kept = λ h. (h, omega arith); less = λ h. (omega arith, omega arith); above = λ h k. h k }
    go false e q f s g = let a = ltb-false after x e in record { kept = λ h. (h, omega arith); less = λ h. absurd (omega arith); above = λ h k. h k }

module _ (marks lowers highers : List ℕ) (after : ℕ) where
  abbrev next : ℕ → ℕ
  next k = next_after marks lowers highers after k

  kept_next : (k : ℕ) → 0 < next k → (0 < next (suc k)) × (next (suc k) ≤ next k)
  unfolding next_after
  kept_next k h = go (eqb (get_or marks k 0) 1)
    where
      go : (b : Bool) → (0 < cond b (lesser_above after (lesser_above after (next k) (get_or lowers k 0)) (get_or highers k 0)) (next k))
          × (cond b (lesser_above after (lesser_above after (next k) (get_or lowers k 0)) (get_or highers k 0)) (next k) ≤ next k)
      go true =
          let p = (is-nearer after (next k) (get_or lowers k 0)).kept h in
          let q = (is-nearer after (lesser_above after (next k) (get_or lowers k 0)) (get_or highers k 0)).kept p.0 in
          (q.0, omega (arith, p.1, q.1))
      go false = (h, omega arith)

  -- no more than a region of a marked rank that is above
  pub next-least : (n : ℕ) (i x : ℕ) → i < n → has_region marks lowers highers x i ≡ true → after < x → (0 < next n) × (next n ≤ x)
  unfolding next_after
  next-least zero i x h e l = absurd (omega arith)
  next-least (suc k) i x h e l =
      by_cases (ℕ_discrete i k) (λ q. here (subst (λ (j : ℕ). has_region marks lowers highers x j ≡ true) q e))
      (λ q. let w = next-least k i x (omega arith) e l in let v = kept_next k w.0 in (v.0, omega (arith, v.1, w.1)))
    where
      here : has_region marks lowers highers x k ≡ true → (0 < next (suc k)) × (next (suc k) ≤ x)
      here t =
          let p = and_parts (eqb (get_or marks k 0) 1) (eqb x (get_or lowers k 0) || eqb x (get_or highers k 0)) t in
          let one = is-nearer after (next k) (get_or lowers k 0) in
          let two = is-nearer after (lesser_above after (next k) (get_or lowers k 0)) (get_or highers k 0) in
          let lower : eqb x (get_or lowers k 0) ≡ true → (0 < lesser_above after (lesser_above after (next k) (get_or lowers k 0)) (get_or highers k 0))
          × (lesser_above after (lesser_above after (next k) (get_or lowers k 0)) (get_or highers k 0) ≤ x)
          = λ z. let y = eqb-true x (get_or lowers k 0) z in let u = one.less (omega arith) in let v = two.kept u.0 in (v.0, omega (arith, u.1, v.1)) in
          let higher : eqb x (get_or highers k 0) ≡ true → (0 < lesser_above after (lesser_above after (next k) (get_or lowers k 0)) (get_or highers k 0))
          × (lesser_above after (lesser_above after (next k) (get_or lowers k 0)) (get_or highers k 0) ≤ x)
          = λ z. let y = eqb-true x (get_or highers k 0) z in let u = two.less (omega arith) in (u.0, omega (arith, u.1)) in
          rw p.0 (⊎_elim lower higher (or_cases (eqb x (get_or lowers k 0)) (eqb x (get_or highers k 0)) p.1))

  pub next-above : (n : ℕ) → 0 < next n → after < next n
  unfolding next_after
  next-above zero h = absurd (omega arith)
  next-above (suc k) h = go (eqb (get_or marks k 0) 1) h (next-above k)
    where
      go : (b : Bool) → 0 < cond b (lesser_above after (lesser_above after (next k) (get_or lowers k 0)) (get_or highers k 0)) (next k)
          → (0 < next k → after < next k)
          → after < cond b (lesser_above after (lesser_above after (next k) (get_or lowers k 0)) (get_or highers k 0)) (next k)
      go true h i = (is-nearer after (lesser_above after (next k) (get_or lowers k 0)) (get_or highers k 0)).above
          ((is-nearer after (next k) (get_or lowers k 0)).above i) h
      go false h i = i h

-- two owners that follow each other differ
two-apart : (l : List ℕ) (o : ℕ) → (eqb (length l) 0 || not (eqb (get_or l (length l - 1) 0) o)) ≡ true → length (l ++ (o ∷ [])) ≡ 2
    → get_or (l ++ (o ∷ [])) 0 0 ≡ get_or (l ++ (o ∷ [])) 1 0 → ⊥
two-apart [] o h e q = omega (arith, e)
two-apart (x ∷ []) o h e q = eqb-false x o (not-true (eqb x o) h) q
two-apart (x ∷ y ∷ ys) o h e q = omega (arith, e, length-append ys (o ∷ []))

module _ (f : ℕ → Record) (r : ℕ) where
  apart : (k : ℕ) → length (touchers f r k) ≡ 2 → get_or (touchers f r k) 0 0 ≡ get_or (touchers f r k) 1 0 → ⊥
  unfolding touchers
  apart zero e q = omega (arith, e)
  apart (suc k) e q = go (in_record r (f k))
      (eqb (length (touchers f r k)) 0 || not (eqb (get_or (touchers f r k) (length (touchers f r k) - 1) 0) (f k).owner))
      refl e q (apart k)
    where
      go : (a b : Bool) → (eqb (length (touchers f r k)) 0 || not (eqb (get_or (touchers f r k) (length (touchers f r k) - 1) 0) (f k).owner)) ≡ b
          → length (cond (a && b) (touchers f r k ++ ((f k).owner ∷ [])) (touchers f r k)) ≡ 2
          → get_or (cond (a && b) (touchers f r k ++ ((f k).owner ∷ [])) (touchers f r k)) 0 0 ≡ get_or
          (cond (a && b) (touchers f r k ++ ((f k).owner ∷ [])) (touchers f r k)) 1 0
          → (length (touchers f r k) ≡ 2 → get_or (touchers f r k) 0 0 ≡ get_or (touchers f r k) 1 0 → ⊥) → ⊥
      go true true h e q i = two-apart (touchers f r k) (f k).owner h e q
      go true false h e q i = i e q
      go false b h e q i = i e q

-- the two that touch a region are two ranks below n
pub two-ranks : (owners lefts rights : List ℕ) {n k : ℕ} (r : ℕ) → OwnersBelow owners k n → let t = touching_after (record_in owners lefts rights) r k in
    t.count ≡ 2 → (t.first < n) × (t.second < n) × (t.first ≡ t.second → ⊥)
two-ranks owners lefts rights {n} {k} r h = rw (told f r k) (λ e. (below e 0 (omega arith), below e 1 (omega arith), apart f r k e))
  where
    f : ℕ → Record
    f = record_in owners lefts rights

    below : length (touchers f r k) ≡ 2 → (i : ℕ) → i < 2 → get_or (touchers f r k) i 0 < n
    below e i l = let t = toucher-touches f r k (get_d-mem (touchers f r k) 0 i (omega arith)) in let o = h.each t.place t.below in
        omega (arith, t.owner, o)
