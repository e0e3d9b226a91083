-- An f64 that is √d ÷ 2 itself is the nearest to it, and then d is a square.
use mathlib.Core.Path.{◌≡◌, ap, subst}
use mathlib.Core.Bool.{Bool}
use Prim.Native.Nat.{ℕ, zero, suc, ◌+◌, ◌*◌, ◌/◌, ◌%◌, ◌^◌, ◌<◌}
use native.Mathlib.Omega.{arith}
use lib.IntN.{pos, negsuc}
use lib.Dec.{T, eqb→eq}
use lib.Pow.{pow_pos}
use lib.Ieee.{Float, nan, inf, fin, binary64, fits}
use Rattle.length.specs.Root.{Square}
use Rattle.length.specs.Nearest.{NearestLength, ExactRoot, PlainFloat, num, den}
use Rattle.length.proofs.Squares.{square-lt}
use Rattle.length.proofs.Values.{odd_part}

pub exact-nearest : (d : ℕ) (x : Float) → PlainFloat x → ExactRoot d x → NearestLength d x
exact-nearest d x p e = record {
  value = p;
  below = λ y q l.
      let s : (num x * den y + num y * den x) * (num x * den y + num y * den x) < 2 * (num x * den y) * (2 * (num x * den y)) = square-lt (omega arith) in
      omega (arith, s, ap (λ (z : ℕ). z * (den y * den y)) e);
  above = λ y q l.
      let s : 2 * (num x * den y) * (2 * (num x * den y)) < (num x * den y + num y * den x) * (num x * den y + num y * den x) = square-lt (omega arith) in
      omega (arith, s, ap (λ (z : ℕ). z * (den y * den y)) e);
}

-- zero is written without a denominator
no_zero : (s : Bool) (a : ℕ) → T (fits binary64 (fin s zero (negsuc a))) → ⊥
unfolding fits
no_zero s a h = omega (arith, eqb→eq (1 * 2 ^ suc a) 1 h, pow_pos a)

-- the square of an odd number is no multiple of 4
odd : (x y : ℕ) → 4 * x + 1 ≡ 4 * y → ⊥
odd x y e = omega arith

odd-square : (n d p : ℕ) → n % 2 ≡ 1 → 4 * (n * 1 * (n * 1)) ≡ d * (4 * p * (4 * p)) → ⊥
odd-square n d p o e =
    let g = n / 2 in
    let h : n ≡ 2 * g + 1 = omega arith in
    let f : n * n ≡ (2 * g + 1) * (2 * g + 1) = ap (λ (z : ℕ). z * z) h in
    odd (g * g + g) (d * (p * p)) (omega arith)

-- so the number has at most one digit after the point
pub exact-square : (d : ℕ) (x : Float) → T (fits binary64 x) → ExactRoot d x → Square d
exact-square d nan h e = (0, omega arith)
exact-square d (inf s) h e = (0, omega arith)
exact-square d (fin s m (pos a)) h e = (2 * (m * 2 ^ a), omega arith)
exact-square d (fin s zero (negsuc a)) h e = absurd (no_zero s a h)
exact-square d (fin s (suc m) (negsuc zero)) h e = (suc m, omega arith)
exact-square d (fin s (suc m) (negsuc (suc a))) h e =
    let q : 2 ^ suc (suc a) ≡ 4 * 2 ^ a = omega arith in
    absurd (odd-square (suc m) d (2 ^ a) (odd_part s m (negsuc (suc a)) h) (subst (λ (z : ℕ). 4 * (suc m * 1 * (suc m * 1)) ≡ d * (z * z)) q e))
