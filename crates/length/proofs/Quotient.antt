-- The float quotient of two whole numbers, of which the second is a power of two, is exact.
use mathlib.Core.Path.{◌≡◌, sym, ap, subst, ◌∙◌}
use mathlib.Core.Logic.{◌⊎◌, inl, inr}
use mathlib.Core.Bool.{true, false, not}
use Prim.Native.Nat.{ℕ, ◌+◌, ◌-◌, ◌*◌, ◌^◌, ◌≤◌, ◌<◌}
use native.Mathlib.Nat.{lt_of_lt_of_le, eq-or-lt_of_le, mul_assoc, mul_comm, mul_left_comm, mul-pos, mul-one, one-mul}
use native.Mathlib.Omega.{arith}
use lib.IntN.{pos}
use lib.Dec.{T, eqb, ltb, ltb→lt, eqb→eq, not_T, lit<}
use lib.Pow.{pow_pos, pow_mono, pow-lt, shl_lt}
use lib.Ieee.{Float, nan, inf, fin, Format, binary64, fits, round, div, of_int}
use lib.Ieee.Bits.{cond_no}
use lib.Ieee.Fits.{div-fits}
use lib.Ieee.Exact.{HasValue, round_exact}
use lib.Ieee.Scale.{round_same}
use lib.Ieee.Back.{round_whole}
use lib.Ieee.Positive.{num, den, den_pos, positive, positive_of_value, value→cross}
use Rattle.length.proofs.Powers.{split}

-- the quotient of two values above zero
not-zero : (n : ℕ) → T (ltb 0 n) → T (not (eqb n 0))
not-zero n h = not_T (eqb n 0) (λ (t : T (eqb n 0)). omega (arith, ltb→lt 0 n h, eqb→eq n 0 t))

div_is : (f : Format) (x y : Float) → T (positive x) → T (positive y) → div f x y ≡ round f false (num x * den y) (num y * den x)
unfolding div
div_is f nan y p q = absurd p
div_is f (inf s) y p q = absurd p
div_is f (fin true m e) y p q = absurd p
div_is f (fin false m e) nan p q = absurd q
div_is f (fin false m e) (inf t) p q = absurd q
div_is f (fin false m e) (fin true n d) p q = absurd q
div_is f (fin false m e) (fin false n d) p q = cond_no (eqb n 0) _ _ (not-zero n q)

-- by the whole numbers that they are
div-whole : (f : Format) (x y : Float) (a b : ℕ) → 0 < a → 0 < b → HasValue x false a 1 → HasValue y false b 1 → div f x y ≡ round f false a b
div-whole f x y a b A B h k =
    let X : num x ≡ a * den x = sym (mul-one (num x)) ∙ value→cross x a 1 h in
    let Y : num y ≡ b * den y = sym (mul-one (num y)) ∙ value→cross y b 1 k in
    let mid : a * den x * den y * b ≡ a * (b * den y * den x) = simp (mul_assoc, mul_comm, mul_left_comm) in
    div_is f x y (positive_of_value x a 1 h A) (positive_of_value y b 1 k B)
    ∙ round_same f false (num x * den y) (num y * den x) a b
    (subst (λ (z : ℕ). 0 < z * den x) (sym Y) (mul-pos (mul-pos B (den_pos y)) (den_pos x)))
    B
    (ap (λ (z : ℕ). z * den y * b) X ∙ mid ∙ ap (λ (z : ℕ). a * (z * den x)) (sym Y))

-- a / 2 ^ k is a value of the format: for an a of 53 digits
exact_below : (a k : ℕ) → k ≤ 60 → a < 2 ^ 53 → HasValue (round binary64 false a (2 ^ k)) false a (2 ^ k)
exact_below a k K A =
    round_exact binary64 false a (2 ^ k) a (1074 - k) (pow_pos k) A
    (lt_of_lt_of_le (shl_lt 53 (1074 - k) A) (pow_mono {i = 53 + (1074 - k)} {j = 2098} (omega arith)))
    (ap (λ (z : ℕ). a * z) (split k 1074 (omega arith)) ∙ sym (mul_assoc a (2 ^ (1074 - k)) (2 ^ k)))

exact-top : (k : ℕ) → k ≤ 60 → HasValue (round binary64 false (2 ^ 53) (2 ^ k)) false (2 ^ 53) (2 ^ k)
exact-top k K =
    round_exact binary64 false (2 ^ 53) (2 ^ k) 1 (1127 - k) (pow_pos k) (lit< tt)
    (subst (λ (z : ℕ). z < 2 ^ 2098) (sym (one-mul (2 ^ (1127 - k)))) (pow-lt {i = 1127 - k} {j = 2098} (omega arith)))
    (split k 1127 (omega arith) ∙ ap (λ (z : ℕ). z * 2 ^ k) (sym (one-mul (2 ^ (1127 - k)))))

pub exact : (a k : ℕ) → k ≤ 60 → a ≤ 2 ^ 53 → HasValue (round binary64 false a (2 ^ k)) false a (2 ^ k)
exact a k K A = go (eq-or-lt_of_le A)
  where
    go : (a ≡ 2 ^ 53) ⊎ (a < 2 ^ 53) → HasValue (round binary64 false a (2 ^ k)) false a (2 ^ k)
    go (inl e) = subst (λ (z : ℕ). HasValue (round binary64 false z (2 ^ k)) false z (2 ^ k)) (sym e) (exact-top k K)
    go (inr l) = exact_below a k K l

pub quotient : (a p k : ℕ) → p ≡ 2 ^ k → k ≤ 53 → 0 < a → a ≤ 2 ^ 53
    → HasValue (div binary64 (of_int binary64 (pos a)) (of_int binary64 (pos p))) false a (2 ^ k)
    × T (fits binary64 (div binary64 (of_int binary64 (pos a)) (of_int binary64 (pos p))))
unfolding of_int
quotient a p k e K P A =
    let x = of_int binary64 (pos a) in
    let y = of_int binary64 (pos p) in
    let small : p ≤ 2 ^ 53 = subst (λ (z : ℕ). z ≤ 2 ^ 53) (sym e) (pow_mono K) in
    let above : 0 < p = subst (λ (z : ℕ). 0 < z) (sym e) (pow_pos k) in
    let is : div binary64 x y ≡ round binary64 false a (2 ^ k) =
    div-whole binary64 x y a p P above (round_whole binary64 false a A) (round_whole binary64 false p small) ∙ ap (λ (z : ℕ). round binary64 false a z) e in
    (subst (λ (z : Float). HasValue z false a (2 ^ k)) (sym is) (exact a k (omega arith) A), div-fits binary64 x y)
