-- The least and the greatest number of a list are members that bound the others.
use mathlib.Core.Path.{◌≡◌, refl}
use mathlib.Core.Logic.{by_cases}
use mathlib.Core.List.{List, [], ◌∷◌, Memᴰ}
use Prim.Native.Nat.{ℕ, ◌≤◌, min, max}
use native.Mathlib.Omega.{arith}
use native.Mathlib.Decide.{dec_le}
use Rattle.context.specs.Extremes.{least, greatest}

pub least-le : (l : List ℕ) {x : ℕ} → Memᴰ x l → least l ≤ x
unfolding least
least-le [] m = elim m [ ]
least-le (y ∷ []) (Memᴰ.head e) = omega arith
least-le (y ∷ []) (Memᴰ.tail m) = elim m [ ]
least-le (y ∷ z ∷ zs) (Memᴰ.head e) = omega arith
least-le (y ∷ z ∷ zs) (Memᴰ.tail m) = omega (arith, least-le (z ∷ zs) m)

pub least-mem : (x : ℕ) (xs : List ℕ) → Memᴰ (least (x ∷ xs)) (x ∷ xs)
unfolding least
least-mem x [] = Memᴰ.head refl
least-mem x (y ∷ ys) = go (least (y ∷ ys)) (least-mem y ys)
  where
    go : (k : ℕ) → Memᴰ k (y ∷ ys) → Memᴰ (min x k) (x ∷ y ∷ ys)
    go k m = by_cases (dec_le x k) (λ l. Memᴰ.head (omega arith)) (λ l. let e : min x k ≡ k = omega arith in rw e (Memᴰ.tail m))

pub le-greatest : (l : List ℕ) {x : ℕ} → Memᴰ x l → x ≤ greatest l
unfolding greatest
le-greatest [] m = elim m [ ]
le-greatest (y ∷ ys) (Memᴰ.head e) = omega arith
le-greatest (y ∷ ys) (Memᴰ.tail m) = omega (arith, le-greatest ys m)

pub greatest-mem : (x : ℕ) (xs : List ℕ) → Memᴰ (greatest (x ∷ xs)) (x ∷ xs)
unfolding greatest
greatest-mem x [] = let e : max x 0 ≡ x = omega arith in Memᴰ.head e
greatest-mem x (y ∷ ys) = go (greatest (y ∷ ys)) (greatest-mem y ys)
  where
    go : (k : ℕ) → Memᴰ k (y ∷ ys) → Memᴰ (max x k) (x ∷ y ∷ ys)
    go k m = by_cases (dec_le k x) (λ l. Memᴰ.head (omega arith)) (λ l. let e : max x k ≡ k = omega arith in rw e (Memᴰ.tail m))
