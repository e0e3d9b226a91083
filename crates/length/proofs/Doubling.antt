-- Twice as many digits of a root, by one division.
use mathlib.Core.Path.{◌≡◌, ap}
use Prim.Native.Nat.{ℕ, ◌+◌, ◌-◌, ◌*◌, ◌/◌, ◌%◌, ◌^◌, ◌≤◌, ◌<◌}
use native.Mathlib.Nat.{div-add-mod', mod-lt, lt_of_mul-lt-mul_right, mul-le-mul}
use native.Mathlib.Omega.{arith}
use Rattle.length.specs.Root.{DoubledDigits}

-- r is a root of 27 digits, with q left over
module _ (r q : ℕ) (low : 2 ^ 26 ≤ r) (high : r < 2 ^ 27) (small : q ≤ 2 * r) where
  -- the second half of the digits, or one above it, and what the division leaves
  abbrev half : ℕ
  half = q * 0x800_0000 / (r * 2)

  abbrev left : ℕ
  left = q * 0x800_0000 % (r * 2)

  divided : half * (r * 2) + left ≡ q * 0x800_0000
  divided = div-add-mod' (q * 0x800_0000) (r * 2)

  pub left_less : left < r * 2
  left_less = mod-lt (q * 0x800_0000) {m = r * 2} (omega arith)

  pub half-most : half ≤ 2 ^ 27
  half-most =
      let l : half < 2 ^ 27 + 1 = lt_of_mul-lt-mul_right (r * 2) (omega (arith, divided)) in
      omega arith

  pub square-most : half * half ≤ 2 ^ 54
  square-most = omega (arith, mul-le-mul half-most half-most)

  pub halved : (left < r * 2) × (half ≤ 2 ^ 27) × (half * half ≤ 2 ^ 54)
  halved = (left_less, half-most, square-most)

  -- the division leaves enough for the square of the second half
  pub enough : half * half ≤ left * 0x800_0000 → DoubledDigits r q (r * 0x800_0000 + half) (left * 0x800_0000 - half * half)
  enough h = record {
    sum = omega (arith, divided);
    small = omega (arith, left_less);
    least = omega arith;
  }

  -- it does not, and one less does
  pub some : {n : ℕ} → n < half * half → 0 < half
  some h = lt_of_mul-lt-mul_right half {m = 0} {n = half} (omega arith)

  lowered : (s t : ℕ) → left * 0x800_0000 < half * half → s + 1 ≡ r * 0x800_0000 + half → t + half * half ≡ left * 0x800_0000 + (2 * s + 1)
      → DoubledDigits r q s t
  lowered s t h e f = record {
    sum = omega (arith, divided, ap (λ (z : ℕ). z * z) e);
    small = omega arith;
    least = omega (arith, some h);
  }

  pub one_less : left * 0x800_0000 < half * half
      → DoubledDigits r q (r * 0x800_0000 + half - 1) (left * 0x800_0000 + ((r * 0x800_0000 + half) * 2 - 1) - half * half)
  one_less h =
      lowered (r * 0x800_0000 + half - 1) (left * 0x800_0000 + ((r * 0x800_0000 + half) * 2 - 1) - half * half) h (omega (arith, some h))
      (omega (arith, square-most, some h))
