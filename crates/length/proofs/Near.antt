-- The f64 M / p is nearest to √d ÷ 2, where R is the whole part of √d * p, p is a power of two, and M is half of R, rounded up.
use mathlib.Core.Path.{◌≡◌, refl, ap, subst, ◌∙◌}
use mathlib.Core.Bool.{false}
use Prim.Native.Nat.{ℕ, zero, suc, ◌+◌, ◌-◌, ◌*◌, ◌/◌, ◌%◌, ◌^◌, ◌≤◌, ◌<◌}
use native.Mathlib.Nat.{le_of_lt, lt_of_not-le, lt_of_mul-lt-mul_right, mul-le-mul, pow-succ'}
use native.Mathlib.Omega.{arith}
use native.Mathlib.Decide.{dec_le}
use lib.IntN.{pos, negsuc}
use lib.Dec.{T}
use lib.Pow.{pow_pos, pow_mono}
use lib.Ieee.{Float, nan, inf, fin, binary64, fits}
use lib.Ieee.Exact.{HasValue}
use Rattle.length.specs.Nearest.{NearestLength, PlainFloat, num, den}
use Rattle.length.proofs.Powers.{split}
use Rattle.length.proofs.Values.{den_pos, digits, cross, is_plain}
use Rattle.length.proofs.Squares.{under, under-odd, over, rest, less, more, to_below, to-above}

-- No f64 lies strictly between M / 2 ^ k and (M + 1) / 2 ^ k, from M = 2 ^ 52 on:
-- a fraction of a smaller denominator is whole, in units of 1 / 2 ^ k,
coarse : (n M i k : ℕ) → i ≤ k → M * 2 ^ i < n * 2 ^ k → n * 2 ^ k < suc M * 2 ^ i → ⊥
coarse n M i k h l u =
    let w = 2 ^ (k - i) in
    let e : n * 2 ^ k ≡ n * w * 2 ^ i = ap (λ (z : ℕ). n * z) (split i k h) ∙ omega arith in
    let a : M < n * w = lt_of_mul-lt-mul_right (2 ^ i) (subst (λ (z : ℕ). M * 2 ^ i < z) e l) in
    let b : n * w < suc M = lt_of_mul-lt-mul_right (2 ^ i) (subst (λ (z : ℕ). z < suc M * 2 ^ i) e u) in
    omega arith

-- and one of a larger denominator is below 2 ^ 52
fine : (n M i k : ℕ) → k < i → n < 2 ^ 53 → 2 ^ 52 ≤ M → M * 2 ^ i < n * 2 ^ k → ⊥
fine n M i k h n< m l =
    let w = 2 ^ (i - k) in
    let e : M * 2 ^ i ≡ M * w * 2 ^ k = ap (λ (z : ℕ). M * z) (split k i (le_of_lt h)) ∙ omega arith in
    let a : M * w < n = lt_of_mul-lt-mul_right (2 ^ k) (subst (λ (z : ℕ). z < n * 2 ^ k) e l) in
    let two : 2 ≤ w = pow_mono {i = 1} {j = i - k} (omega arith) in
    let b : 2 ^ 52 * 2 ≤ M * w = mul-le-mul m two in
    omega arith

gap : (y : Float) (M k : ℕ) → PlainFloat y → 2 ^ 52 ≤ M → M * den y < num y * 2 ^ k → num y * 2 ^ k < suc M * den y → ⊥
gap nan M k p m l u = absurd p.plain
gap (inf s) M k p m l u = absurd p.plain
gap (fin s n (pos a)) M k p m l u = omega arith
gap (fin s n (negsuc a)) M k p m l u = go (dec_le (suc a) k)
  where
    l' : M * 2 ^ suc a < n * 2 ^ k
    l' = omega arith

    u' : n * 2 ^ k < suc M * 2 ^ suc a
    u' = omega arith

    go : Dec (suc a ≤ k) → ⊥
    go (yes h) = coarse n M (suc a) k h l' u'
    go (no f) = fine n M (suc a) k (lt_of_not-le f) (digits s n (negsuc a) p.held) m l'

-- so a y below M + 1 units is at most M, and a y above M at least M + 1
at_most : (y : Float) (M k : ℕ) → PlainFloat y → 2 ^ 52 ≤ M → num y * 2 ^ k < suc M * den y → num y * 2 ^ k ≤ M * den y
at_most y M k p m u = go (dec_le (num y * 2 ^ k) (M * den y))
  where
    go : Dec (num y * 2 ^ k ≤ M * den y) → num y * 2 ^ k ≤ M * den y
    go (yes h) = h
    go (no f) = absurd (gap y M k p m (lt_of_not-le f) u)

at_least : (y : Float) (M k : ℕ) → PlainFloat y → 2 ^ 52 ≤ M → M * den y < num y * 2 ^ k → suc M * den y ≤ num y * 2 ^ k
at_least y M k p m l = go (dec_le (suc M * den y) (num y * 2 ^ k))
  where
    go : Dec (suc M * den y ≤ num y * 2 ^ k) → suc M * den y ≤ num y * 2 ^ k
    go (yes h) = h
    go (no f) = absurd (gap y M k p m l (lt_of_not-le f))

-- x is M / p with p = 2 ^ (k + 1), and R the root of d * p * p; p is even
module _ (d R Q k M : ℕ) (x : Float) (sum : R * R + Q ≡ d * (2 ^ suc k * 2 ^ suc k)) (small : Q ≤ 2 * R) (big : 2 ^ 53 ≤ R)
    (value : HasValue x false M (2 ^ suc k)) (held : T (fits binary64 x)) where
  -- x + y in units of 1 / p, times y's denominator
  abbrev both : Float → ℕ
  both y = M * den y + num y * 2 ^ suc k

  -- what is to be shown of a y below x, and of one above it
  abbrev Below : Type 0
  Below = (y : Float) → PlainFloat y → num y * 2 ^ suc k < M * den y → both y * both y < (R * R + Q) * (den y * den y)

  abbrev Above : Type 0
  Above = (y : Float) → PlainFloat y → M * den y < num y * 2 ^ suc k → (R * R + Q) * (den y * den y) < both y * both y

  below-even : R ≡ 2 * M → Below
  below-even e y p l = under (both y) (den y) R Q (omega (arith, ap (λ (z : ℕ). z * den y) e))

  above-even : R ≡ 2 * M → Above
  above-even e y p l = over (both y) (den y) R Q (den_pos y) small (omega (arith, ap (λ (z : ℕ). z * den y) e, at_least y M (suc k) p (omega arith) l))

  below-odd : (g : ℕ) → M ≡ suc g → R ≡ 2 * g + 1 → Below
  below-odd g m e y p l =
      let n : num y * 2 ^ suc k ≤ g * den y = at_most y g (suc k) p (omega arith) (subst (λ (z : ℕ). num y * 2 ^ suc k < z * den y) m l) in
      under-odd (both y) (den y) R Q (den_pos y) (rest d R Q (2 ^ suc k) g sum e (2 ^ k) (pow-succ' 2 k))
      (omega (arith, ap (λ (z : ℕ). z * den y) e, ap (λ (z : ℕ). z * den y) m))

  above_odd : (g : ℕ) → M ≡ suc g → R ≡ 2 * g + 1 → Above
  above_odd g m e y p l = over (both y) (den y) R Q (den_pos y) small (omega (arith, ap (λ (z : ℕ). z * den y) e, ap (λ (z : ℕ). z * den y) m))

  from-units : Below → Above → NearestLength d x
  from-units f g = record {
    value = record { held = held; plain = is_plain x M (2 ^ suc k) value };
    below = λ y p l. to_below (num x) (den x) (num y) (den y) (2 ^ suc k) M (den_pos x) (pow_pos (suc k)) (cross x M (2 ^ suc k) value) d (R * R + Q) sum
        (f y p (less (num x) (den x) (num y) (den y) (2 ^ suc k) M (den_pos x) (pow_pos (suc k)) (cross x M (2 ^ suc k) value) l));
    above = λ y p l. to-above (num x) (den x) (num y) (den y) (2 ^ suc k) M (den_pos x) (pow_pos (suc k)) (cross x M (2 ^ suc k) value) d (R * R + Q) sum
        (g y p (more (num x) (den x) (num y) (den y) (2 ^ suc k) M (den_pos x) (pow_pos (suc k)) (cross x M (2 ^ suc k) value) l));
  }

  -- M is half of R, rounded up
  pub nearest : R ≤ 2 * M → 2 * M ≤ R + 1 → NearestLength d x
  nearest m n = go (R % 2) refl
    where
      go : (b : ℕ) → R % 2 ≡ b → NearestLength d x
      go zero e = from-units (below-even (omega arith)) (above-even (omega arith))
      go (suc b) e = from-units (below-odd (R / 2) (omega arith) (omega arith)) (above_odd (R / 2) (omega arith) (omega arith))
