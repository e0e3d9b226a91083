-- The whole root is the whole root, and there is one only; a number is a square exactly if its root leaves no rest.
use mathlib.Core.Path.{◌≡◌, refl, sym, ap, subst}
use mathlib.Core.Bool.{Bool, true, false, cond}
use Prim.Native.Nat.{ℕ, zero, suc, ◌+◌, ◌*◌, ◌/◌, ◌^◌, ◌≤◌, ◌<◌}
use native.Mathlib.Nat.{pow-succ'}
use native.Mathlib.Omega.{arith}
use borrow.Author.Tests.{leb-true, leb-false, eqb-true, eq-eqb}
use lib.Dec.{leb}
use lib.Ieee.{size}
use lib.Ieee.Digits.{size-lt}
use Rattle.length.specs.Root.{Rooted, Square, refined, root_by, whole_root, rest_of, is_square, root_of}
use Rattle.length.specs.declared.Root.{Root}
use Rattle.length.proofs.Squares.{root-lt, square-rest}

-- r is the whole root of n
record Holds (n r : ℕ) : Type 0 where
  low : r * r ≤ n
  high : n < (r + 1) * (r + 1)

refined-holds : (n r : ℕ) → Holds (n / 4) r → Holds n (refined r n)
unfolding refined
refined-holds n r h = go (leb ((2 * r + 1) * (2 * r + 1)) n) refl
  where
    go : (t : Bool) → leb ((2 * r + 1) * (2 * r + 1)) n ≡ t → Holds n (cond t (2 * r + 1) (2 * r))
    go true e = record { low = leb-true ((2 * r + 1) * (2 * r + 1)) n e; high = omega (arith, h.high) }
    go false e = record { low = omega (arith, h.low); high = leb-false ((2 * r + 1) * (2 * r + 1)) n e }

root_by_lem : (i n : ℕ) → n < 2 ^ i → Holds n (root_by i n)
unfolding root_by
root_by_lem zero n h = record { low = omega arith; high = omega arith }
root_by_lem (suc i) n h = refined-holds n (root_by i (n / 4)) (root_by_lem i (n / 4) (omega (arith, pow-succ' 2 i)))

root-holds : (n : ℕ) → Holds n (whole_root n)
unfolding whole_root
root-holds n = root_by_lem (size n) n (size-lt n)

pub root_is : (n : ℕ) → Rooted n (whole_root n) (rest_of n)
unfolding rest_of
root_is n =
    let h = root-holds n in
    let l = h.low in
    let u = h.high in
    record { sum = omega arith; small = omega arith }

-- and only that
pub root-unique : (n r q : ℕ) → Rooted n r q → (r ≡ whole_root n) × (q ≡ rest_of n)
root-unique n r q h =
    let s = whole_root n in
    let a = (root_is n).sum in
    let b = (root_is n).small in
    let le : r < suc s = root-lt {a = r} {b = suc s} (omega (arith, h.sum)) in
    let ge : s < suc r = root-lt {a = s} {b = suc r} (omega (arith, h.sum, h.small)) in
    let e : r ≡ s = omega arith in
    let f : r * r ≡ s * s = ap (λ (z : ℕ). z * z) e in
    (e, omega (arith, h.sum))

pub is-root : (n : ℕ) (r : Root) → Rooted n r.root r.rem → r ≡ root_of n
is-root n r h = let e = root-unique n r.root r.rem h in λ i. record { root = e.0 i; rem = e.1 i }

pub rooted : (n : ℕ) (r : Root) → r ≡ root_of n → Rooted n r.root r.rem
rooted n r e = subst (λ (x : Root). Rooted n x.root x.rem) (sym e) (root_is n)

-- a number above 0 has a root above 0
pub root-pos : (n r q : ℕ) → Rooted n r q → 0 < n → 0 < r
root-pos n zero q h l = absurd (omega (arith, h.sum, h.small))
root-pos n (suc r) q h l = omega arith

pub square-is : (n : ℕ) → is_square n ≡ true → Square n
unfolding is_square
square-is n e = (whole_root n, omega (arith, eqb-true (rest_of n) 0 e, (root_is n).sum))

pub is-square : (n : ℕ) → Square n → is_square n ≡ true
unfolding is_square
is-square n (k, e) = eq-eqb (rest_of n) 0 (square-rest n (whole_root n) (rest_of n) k (root_is n).sum (root_is n).small e)
