-- What holds of length_of's loop, at each turn, as it starts, and what twice as many digits give as it ends.
use mathlib.Core.Path.{◌≡◌, refl, sym, ap, subst, ◌∙◌}
use Prim.Native.Nat.{ℕ, zero, suc, ◌+◌, ◌*◌, ◌^◌, ◌≤◌, ◌<◌}
use native.Mathlib.Nat.{lt_of_not-le, mul-le-mul}
use native.Mathlib.Omega.{arith}
use native.Mathlib.Decide.{dec_le}
use lib.IntN.{pos}
use lib.Dec.{T, le→leb}
use lib.Pow.{pow_pos, pow_mono, pow-add}
use lib.Ieee.{binary64, div, of_int, in_float}
use Rattle.length.specs.Root.{Rooted, DigitStep, DoubledDigits}
use Rattle.length.specs.Nearest.{NearestLength}
use Rattle.length.proofs.Squares.{le-square, root-lt}
use Rattle.length.proofs.Roots.{root-pos}
use Rattle.length.proofs.Near.{nearest}
use Rattle.length.proofs.Quotient.{quotient}

-- R is the whole part of √d * p, p is a power of two, and R has at most 54 digits
pub record Going (d R Q p : ℕ) : Type 0 where
  pub k : ℕ
  pub power : p ≡ 2 ^ k
  pub sum : R * R + Q ≡ d * (p * p)
  pub small : Q ≤ 2 * R
  pub under : p ≤ R
  pub below : R < 2 ^ 54

pub start : (d R Q : ℕ) → 0 < d → d ≤ 2 ^ 29 → Rooted d R Q → Going d R Q 1
start d R Q n h r = record {
  k = 0;
  power = refl;
  sum = omega (arith, r.sum);
  small = r.small;
  under = root-pos d R Q r n;
  below = omega (arith, le-square R, r.sum);
}

pub turn : (d R Q p S U : ℕ) → Going d R Q p → R < 2 ^ 53 → DigitStep R Q 0 S U → Going d S U (p * 2)
turn d R Q p S U g h s = record {
  k = suc g.k;
  power = omega (arith, g.power);
  sum = omega (arith, g.sum, s.sum);
  small = s.small;
  under = omega (arith, g.under, s.least);
  below = omega (arith, s.most);
}

-- a turn's R is larger
pub grows : (d R Q p S U : ℕ) → Going d R Q p → DigitStep R Q 0 S U → R < S
grows d R Q p S U g s = omega (arith, g.power, g.under, s.least, pow_pos g.k)

-- twice as many digits
pub lengthen : (d R Q p S U : ℕ) → Going d R Q p → R < 2 ^ 27 → DoubledDigits R Q S U → Going d S U (p * 0x800_0000)
lengthen d R Q p S U g h s = record {
  k = g.k + 27;
  power = ap (λ (z : ℕ). z * 0x800_0000) g.power ∙ sym (pow-add 2 g.k 27);
  sum = omega (arith, g.sum, s.sum);
  small = s.small;
  under = omega (arith, g.under, s.least);
  below = root-lt {a = S} {b = 2 ^ 54} (omega (arith, s.sum, g.small, mul-le-mul h h));
}

-- at the end
few : (d R Q p : ℕ) (g : Going d R Q p) → g.k ≤ 53
few d R Q p g = go (dec_le g.k 53)
  where
    go : Dec (g.k ≤ 53) → g.k ≤ 53
    go (yes h) = h
    go (no f) = absurd (omega (arith, pow_mono {i = 54} {j = g.k} (lt_of_not-le f), g.power, g.under, g.below))

pub small-casts : (n : ℕ) → n ≤ 2 ^ 53 → T (in_float binary64 (pos n))
unfolding in_float
small-casts n h = le→leb n (2 ^ 53) h

-- M is half of R, rounded up
module _ (d R Q p M : ℕ) (g : Going d R Q p) (l : 2 ^ 53 ≤ R) (m : R ≤ 2 * M) (n : 2 * M ≤ R + 1) where
  half : (0 < M) × (M ≤ 2 ^ 53)
  half = omega (arith, g.below)

  pub root-casts : T (in_float binary64 (pos M))
  root-casts = small-casts M half.1

  pub finish : d ≤ 2 ^ 29 → NearestLength d (div binary64 (of_int binary64 (pos M)) (of_int binary64 (pos p)))
  finish h = go g.k g.power (few d R Q p g)
    where
      go : (k : ℕ) → p ≡ 2 ^ k → k ≤ 53 → NearestLength d (div binary64 (of_int binary64 (pos M)) (of_int binary64 (pos p)))
      go zero e f = absurd (omega (arith, le-square R, g.sum, ap (λ (z : ℕ). d * (z * z)) e))
      go (suc k) e f =
          let q = quotient M p (suc k) e f half.0 half.1 in
          nearest d R Q k M (div binary64 (of_int binary64 (pos M)) (of_int binary64 (pos p))) (g.sum ∙ ap (λ (z : ℕ). d * (z * z)) e) g.small l q.0 q.1
          m n

pub power-casts : (d R Q p : ℕ) → Going d R Q p → T (in_float binary64 (pos p))
power-casts d R Q p g = small-casts p (subst (λ (z : ℕ). z ≤ 2 ^ 53) (sym g.power) (pow_mono (few d R Q p g)))
