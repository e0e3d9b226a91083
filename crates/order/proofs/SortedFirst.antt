-- The first of a sorted list of values, from the last value to the first: of equal ones the earliest.
use mathlib.Core.Path.{◌≡◌, refl, sym, ◌∙◌, ap, subst}
use mathlib.Core.Bool.{Bool, true, false, cond}
use mathlib.Core.List.{List, [], ◌∷◌, map}
use Prim.Native.Nat.{ℕ, zero, suc, ◌-◌, ◌<◌}
use native.Mathlib.Omega.{arith}
use lib.ListN.{length, get_or}
use Rattle.order.specs.Lists.{up_from}
use Rattle.order.specs.Sorting.{insert, sort}

-- the numbers from j on: j, and those behind it
pub up-down : (j n : ℕ) → j < n → up_from j (n - j) ≡ j ∷ up_from (suc j) (n - suc j)
unfolding up_from
up-down j n l = let e : n - j ≡ suc (n - suc j) = omega arith in ap (up_from j) e

pub up_none : (n : ℕ) → up_from n (n - n) ≡ []
unfolding up_from
up_none n = let e : n - n ≡ 0 = omega arith in ap (up_from n) e

module _ (le : ℕ → ℕ → Bool) where
  insert-some : (x : ℕ) (s : List ℕ) → 0 < length (insert le x s)
  unfolding insert
  insert-some x [] = omega arith
  insert-some x (y ∷ ys) = choose (le x y)
    where
      choose : (b : Bool) → 0 < length (cond b (x ∷ y ∷ ys) (y ∷ insert le x ys))
      choose true = omega arith
      choose false = omega arith

  pub sort-some : (l : List ℕ) → 0 < length l → 0 < length (sort le l)
  unfolding sort
  sort-some [] h = absurd (omega arith)
  sort-some (x ∷ xs) h = insert-some x (sort le xs)

  first-insert : (x : ℕ) (s : List ℕ) → 0 < length s → get_or (insert le x s) 0 0 ≡ cond (le x (get_or s 0 0)) x (get_or s 0 0)
  unfolding insert
  first-insert x [] l = absurd (omega arith)
  first-insert x (y ∷ ys) l = choose (le x y)
    where
      choose : (b : Bool) → get_or (cond b (x ∷ y ∷ ys) (y ∷ insert le x ys)) 0 0 ≡ cond b x y
      choose true = refl
      choose false = refl

  module _ (v : ℕ → ℕ) (n : ℕ) where
    -- the first of the values of k, …, n - 1
    pub record SortedFirst (k x : ℕ) : Type 0 where
      pub inside : k < n
      pub is : x ≡ get_or (sort le (map v (up_from k (n - k)))) 0 0

    pub first-start : (k : ℕ) {x : ℕ} → suc k ≡ n → x ≡ v k → SortedFirst k x
    unfolding sort insert up_from
    first-start k e q = record {
      inside = omega arith;
      is = q ∙ (let z : suc zero ≡ n - k = omega arith in ap (λ (m : ℕ). get_or (sort le (map v (up_from k m))) 0 0) z);
    }

    behind : (j : ℕ) → j < n → 0 < length (sort le (map v (up_from j (n - j))))
    unfolding sort
    behind j l = subst (λ (xs : List ℕ). 0 < length (sort le (map v xs))) (sym (up-down j n l))
        (insert-some (v j) (sort le (map v (up_from (suc j) (n - suc j)))))

    first-turn : (j : ℕ) {x y : ℕ} → SortedFirst (suc j) x → y ≡ cond (le (v j) x) (v j) x → SortedFirst j y
    unfolding sort
    first-turn j {x} {y} p e = record {
      inside = omega (arith, p.inside);
      is = e ∙ (ap (λ (z : ℕ). cond (le (v j) z) (v j) z) p.is
          ∙ (sym (first-insert (v j) (sort le (map v (up_from (suc j) (n - suc j)))) (behind (suc j) p.inside))
          ∙ ap (λ (xs : List ℕ). get_or (sort le (map v xs)) 0 0) (sym (up-down j n (omega (arith, p.inside))))));
    }

    pub first_next : {k x y : ℕ} (a : ℕ) → SortedFirst k x → 0 < k → a ≡ v (k - 1) → y ≡ cond (le a x) a x → SortedFirst (k - 1) y
    first_next {k} {x} a p l e q =
        let z : k ≡ suc (k - 1) = omega arith in
        first-turn (k - 1) (subst (λ (m : ℕ). SortedFirst m x) z p) (q ∙ ap (λ (w : ℕ). cond (le w x) w x) e)

    pub first-end : {k x : ℕ} → SortedFirst k x → k ≡ 0 → x ≡ get_or (sort le (map v (up_from 0 n))) 0 0
    first-end {k} p e =
        let a : up_from k (n - k) ≡ up_from 0 n = ap (λ (m : ℕ). up_from m (n - m)) e ∙ (let z : n - 0 ≡ n = omega arith in ap (up_from 0) z) in
        p.is ∙ ap (λ (l : List ℕ). get_or (sort le (map v l)) 0 0) a
