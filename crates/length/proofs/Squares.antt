-- Numbers and their squares, and fractions in units of a power of two.
use mathlib.Core.Path.{◌≡◌, refl, sym, ap, ◌∙◌}
use Prim.Native.Nat.{ℕ, zero, suc, ◌+◌, ◌*◌, ◌≤◌, ◌<◌, zero-le}
use native.Mathlib.Omega.{arith}
use native.Mathlib.Nat.{le_of_lt, lt_of_le_of_lt, mul-le-mul_left, mul-le-mul, mul-le-mul_right, mul-lt-mul_of_pos_right, mul-pos, pos_of_ne-zero}
use native.Mathlib.Nat.{lt_of_mul-lt-mul_right, mul-mul-mul_comm, mul_assoc, mul_comm, mul_left_comm, lt_of_not-le, not-le_of_lt}

-- a number is at most its square
pub le-square : (r : ℕ) → r ≤ r * r
le-square zero = omega arith
le-square (suc k) = omega arith

pub square-lt : {a b : ℕ} → a < b → a * a < b * b
square-lt {a} {b} h = lt_of_le_of_lt (mul-le-mul_left a (le_of_lt h)) (mul-lt-mul_of_pos_right h (lt_of_le_of_lt zero-le h))

pub root-lt : {a b : ℕ} → a * a < b * b → a < b
root-lt {a} {b} h = lt_of_not-le (λ (g : b ≤ a). not-le_of_lt h (mul-le-mul g g))

-- the rest of a square is 0
pub square-rest : (n R Q k : ℕ) → R * R + Q ≡ n → Q ≤ 2 * R → k * k ≡ n → Q ≡ 0
square-rest n R Q k s q e =
    let below : k < suc R = root-lt {a = k} {b = suc R} (omega arith) in
    let at : k * k ≤ R * R = mul-le-mul {n₁ = k} {m₁ = k} {n₂ = R} {m₂ = R} (omega arith) (omega arith) in
    omega arith

-- t / e is at most R, and N = R * R + Q is above it: t ^ 2 / e ^ 2 < N
pub under : (t e R Q : ℕ) → t < R * e → t * t < (R * R + Q) * (e * e)
under t e R Q h = omega (arith, square-lt h)

pub under-odd : (t e R Q : ℕ) → 0 < e → 0 < Q → t ≤ R * e → t * t < (R * R + Q) * (e * e)
under-odd t e R Q E q h = omega (arith, mul-le-mul h h, mul-pos q (mul-pos E E))

-- t / e is at least R + 1
pub over : (t e R Q : ℕ) → 0 < e → Q ≤ 2 * R → suc R * e ≤ t → (R * R + Q) * (e * e) < t * t
over t e R Q E q h = omega (arith, mul-le-mul h h, mul-le-mul_right (e * e) q, mul-pos E E)

-- an odd square is no even number: so there is a rest
pub rest : (d R Q p g : ℕ) → R * R + Q ≡ d * (p * p) → R ≡ 2 * g + 1 → (h : ℕ) → p ≡ 2 * h → 0 < Q
rest d R Q p g e r h s = pos_of_ne-zero (λ (z : Q ≡ 0). odd (z ∙ refl))
  where
    odd : Q ≡ 0 → ⊥
    odd z =
        let a : R * R ≡ (2 * g + 1) * (2 * g + 1) = ap (λ (x : ℕ). x * x) r in
        let b : d * (p * p) ≡ d * (2 * h * (2 * h)) = ap (λ (x : ℕ). d * (x * x)) s in
        omega arith

-- from fractions with the denominators b and e to the units of 1 / p: x = a / b = M / p, y = c / e
module _ (a b c e p M : ℕ) (B : 0 < b) (P : 0 < p) (h : a * p ≡ M * b) where
  pub less : c * b < a * e → c * p < M * e
  less l = lt_of_mul-lt-mul_right b (omega (arith, mul-lt-mul_of_pos_right l P, ap (λ (z : ℕ). z * e) h))

  pub more : a * e < c * b → M * e < c * p
  more l = lt_of_mul-lt-mul_right b (omega (arith, mul-lt-mul_of_pos_right l P, ap (λ (z : ℕ). z * e) h))

  -- the sum of both, twice scaled
  scaled : (a * e + c * b) * p ≡ (M * e + c * p) * b
  scaled = omega (arith, ap (λ (z : ℕ). z * e) h)

  scaled-square : (a * e + c * b) * (a * e + c * b) * (p * p) ≡ (M * e + c * p) * (M * e + c * p) * (b * b)
  scaled-square = mul-mul-mul_comm (a * e + c * b) (a * e + c * b) p p ∙ ap (λ (z : ℕ). z * z) scaled
      ∙ sym (mul-mul-mul_comm (M * e + c * p) (M * e + c * p) b b)

  number : (d N : ℕ) → N ≡ d * (p * p) → d * (b * e * (b * e)) * (p * p) ≡ N * (e * e) * (b * b)
  number d N n = simp (mul_assoc, mul_comm, mul_left_comm) (simp (mul_assoc, mul_comm, mul_left_comm) at (ap (λ (z : ℕ). z * (b * b * (e * e))) (sym n)))

  pub to_below : (d N : ℕ) → N ≡ d * (p * p) → (M * e + c * p) * (M * e + c * p) < N * (e * e) → (a * e + c * b) * (a * e + c * b) < d * (b * e * (b * e))
  to_below d N n l = lt_of_mul-lt-mul_right (p * p) (rw (scaled-square, number d N n) (mul-lt-mul_of_pos_right l (mul-pos B B)))

  pub to-above : (d N : ℕ) → N ≡ d * (p * p) → N * (e * e) < (M * e + c * p) * (M * e + c * p) → d * (b * e * (b * e)) < (a * e + c * b) * (a * e + c * b)
  to-above d N n l = lt_of_mul-lt-mul_right (p * p) (rw (scaled-square, number d N n) (mul-lt-mul_of_pos_right l (mul-pos B B)))
