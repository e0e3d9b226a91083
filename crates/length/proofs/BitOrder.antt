-- The bits of a number that is not negative, as a whole number, are ordered as the numbers are.
use mathlib.Core.Path.{◌≡◌, sym, ◌∙◌, ap, subst}
use mathlib.Core.Logic.{◌↔◌, by_cases}
use mathlib.Core.Bool.{Bool, true, false, cond, true≢false}
use Prim.Native.Nat.{ℕ, zero, suc, ◌+◌, ◌*◌, ◌/◌, ◌%◌, ◌^◌, ◌≤◌, ◌<◌}
use native.Mathlib.Nat.{mul-le-mul, mul-le-mul_right, mul-lt-mul_of_pos_right, lt_of_lt_of_le, le_of_eq, le_trans, mul-pos}
use native.Mathlib.Omega.{arith}
use native.Mathlib.Decide.{dec_lt, dec_le}
use borrow.Author.Tests.{ne_eqb, eq-eqb, lt-leb, le-leb}
use lib.Dec.{T, leb, eqb}
use lib.Pow.{pow-add, pow_pos, pow_mono}
use lib.Ieee.{Float, nan, inf, fin, binary64, prec, low, le, of_bits, of_fields}
use lib.Ieee.Bits.{is_true}
use lib.Ieee.Exact.{HasValue, odd_sign}
use lib.Ieee.Order.{le_of_values}
use lib.Ieee.Positive.{positive_of_value, values_of_le}
use Rattle.length.specs.Floats.{finite_up}

-- the number of smallest units that an exponent's field and the digits stand for
count : ℕ → ℕ → ℕ
count zero t = t * 2 ^ 0
count (suc x) t = (0x10_0000_0000_0000 + t) * 2 ^ x

fields_value : (s : Bool) (x : ℕ) → x < 2047 → (t : ℕ) → HasValue (of_fields binary64 s x t) s (count x t) (2 ^ low binary64)
unfolding of_fields count
fields_value s zero l t = odd_sign (prec binary64) s t 0 (low binary64)
fields_value s (suc x) l t =
    let e : eqb (suc x) 2047 ≡ false = ne_eqb (suc x) 2047 (λ z. omega arith) in
    rw e (odd_sign (prec binary64) s (0x10_0000_0000_0000 + t) x (low binary64))

abbrev field : ℕ → ℕ
field b = b % 0x8000_0000_0000_0000 / 0x10_0000_0000_0000

abbrev digits : ℕ → ℕ
digits b = b % 0x10_0000_0000_0000

bits-value : (b : ℕ) → b < 0x7FF0_0000_0000_0000 → HasValue (of_bits binary64 b) false (count (field b) (digits b)) (2 ^ low binary64)
unfolding of_bits
bits-value b h = rw plus (fields_value false (field b) (omega arith) (digits b))
  where
    plus : leb 0x8000_0000_0000_0000 b ≡ false
    plus = lt-leb 0x8000_0000_0000_0000 b (omega arith)

-- a greater field counts more, whatever the digits
count-up : (x x' t t' : ℕ) → x < x' → t < 0x10_0000_0000_0000 → count x t < count x' t'
unfolding count
count-up x zero t t' l h = absurd (omega arith)
count-up zero (suc y) t t' l h =
    lt_of_lt_of_le (let z : t * 2 ^ 0 < (0x10_0000_0000_0000 + t') * 1 = omega arith in z)
    (mul-le-mul (let z : 0x10_0000_0000_0000 + t' ≤ 0x10_0000_0000_0000 + t' = omega arith in z) (pow_pos y))
count-up (suc x) (suc y) t t' l h =
    lt_of_lt_of_le
    (mul-lt-mul_of_pos_right (let z : 0x10_0000_0000_0000 + t < 0x10_0000_0000_0000 * 2 = omega arith in z) (pow_pos x))
    (le_trans (le_of_eq (twice (2 ^ x) ∙ ap (λ (z : ℕ). 0x10_0000_0000_0000 * z) (sym (pow-add 2 x 1))))
    (mul-le-mul (let z : 0x10_0000_0000_0000 ≤ 0x10_0000_0000_0000 + t' = omega arith in z) (pow_mono (let z : x + 1 ≤ y = omega arith in z))))
  where
    twice : (p : ℕ) → 0x10_0000_0000_0000 * 2 * p ≡ 0x10_0000_0000_0000 * (p * 2 ^ 1)
    twice p = omega arith

-- and so do greater digits
count-on : (x t t' : ℕ) → t < t' → count x t < count x t'
unfolding count
count-on zero t t' h = omega arith
count-on (suc x) t t' h = mul-lt-mul_of_pos_right (let z : 0x10_0000_0000_0000 + t < 0x10_0000_0000_0000 + t' = omega arith in z) (pow_pos x)

grows : (b b' : ℕ) → b < b' → b' < 0x7FF0_0000_0000_0000 → count (field b) (digits b) < count (field b') (digits b')
grows b b' h l =
    by_cases (dec_lt (field b) (field b')) (λ k. count-up (field b) (field b') (digits b) (digits b') k (omega arith))
    (λ k.
    let e : field b ≡ field b' = omega arith in
    subst (λ (x : ℕ). count (field b) (digits b) < count x (digits b')) e (count-on (field b) (digits b) (digits b') (omega arith)))

-- in the order of their bits
pub bits-order : (b b' : ℕ) → b ≤ b' → b' < 0x7FF0_0000_0000_0000 → le (of_bits binary64 b) (of_bits binary64 b') ≡ true
bits-order b b' h l =
    is_true (le (of_bits binary64 b) (of_bits binary64 b'))
    (le_of_values (of_bits binary64 b) (of_bits binary64 b') (count (field b) (digits b)) (2 ^ low binary64) (count (field b') (digits b')) (2 ^ low binary64)
    (pow_pos (low binary64)) (pow_pos (low binary64)) (bits-value b (omega arith)) (bits-value b' l) (mul-le-mul_right (2 ^ low binary64) most))
  where
    most : count (field b) (digits b) ≤ count (field b') (digits b')
    most =
        by_cases (dec_lt b b') (λ k. let z = grows b b' k l in omega arith)
        (λ k. let e : b ≡ b' = omega arith in subst (λ (x : ℕ). count (field b) (digits b) ≤ count (field x) (digits x)) e (omega arith))

value-up : (x : Float) (a c : ℕ) → HasValue x false a c → T (finite_up x)
value-up nan a c h = absurd h
value-up (inf s) a c h = absurd h
value-up (fin true m e) a c h = absurd (true≢false h.0)
value-up (fin false m e) a c h = tt

value-down : (x : Float) (a c : ℕ) → HasValue x true a c → T (finite_up x) → ⊥
value-down nan a c h k = h
value-down (inf s) a c h k = h
value-down (fin true m e) a c h k = k
value-down (fin false m e) a c h k = true≢false (sym h.0)

-- bits below those of infinity are those of a finite number that is not negative
pub bits_up : (b : ℕ) → b < 0x7FF0_0000_0000_0000 → T (finite_up (of_bits binary64 b))
bits_up b h = value-up (of_bits binary64 b) (count (field b) (digits b)) (2 ^ low binary64) (bits-value b h)

-- an infinity, or none
last-field : (s : Bool) (x t : ℕ) → x ≡ 2047 → T (finite_up (of_fields binary64 s x t)) → ⊥
unfolding of_fields
last-field s zero t e k = absurd (omega arith)
last-field s (suc x) t e k =
    let last : eqb (suc x) 2047 ≡ true = eq-eqb (suc x) 2047 e in
    go (eqb t 0) (rw last at k)
  where
    go : (z : Bool) → T (finite_up (cond z (inf s) nan)) → ⊥
    go true k = k
    go false k = k

-- and no others are
pub up-bits : (b : ℕ) → b < 0x1_0000_0000_0000_0000 → T (finite_up (of_bits binary64 b)) → b < 0x7FF0_0000_0000_0000
unfolding of_bits
up-bits b h k =
    by_cases (dec_lt b 0x7FF0_0000_0000_0000) (λ l. l)
    (λ l.
    by_cases (dec_lt (field b) 2047)
    (λ f.
    let minus : leb 0x8000_0000_0000_0000 b ≡ true = le-leb 0x8000_0000_0000_0000 b (omega arith) in
    let m : T (finite_up (of_fields binary64 true (field b) (digits b))) = rw minus at k in
    absurd (value-down (of_fields binary64 true (field b) (digits b)) (count (field b) (digits b)) (2 ^ low binary64)
    (fields_value true (field b) f (digits b)) m))
    (λ f. absurd (last-field (leb 0x8000_0000_0000_0000 b) (field b) (digits b) (omega arith) k)))

not-both : (a b p : ℕ) → b * p ≤ a * p → a * p < b * p → ⊥
not-both a b p h k = omega arith

counts : (x t : ℕ) → 0 < x → 0 < count x t
unfolding count
counts zero t h = absurd (omega arith)
counts (suc x) t h = mul-pos (let z : 0 < 0x10_0000_0000_0000 + t = omega arith in z) (pow_pos x)

-- "+0 to" a number, by bits: those up to the number's own
pub range-iff : (most b : ℕ) → 0x10_0000_0000_0000 ≤ most → most < 0x7FF0_0000_0000_0000 → b < 0x1_0000_0000_0000_0000
    → (b ≤ most) ↔ (T (finite_up (of_bits binary64 b)) × (le (of_bits binary64 b) (of_bits binary64 most) ≡ true))
range-iff most b some finite wide = (
  λ l. (bits_up b (omega arith), bits-order b most l finite),
  λ w. by_cases (dec_le b most) (λ l. l) (λ l. absurd (over (up-bits b wide w.0) (omega arith) w.1)),
)
  where
    over : b < 0x7FF0_0000_0000_0000 → most < b → le (of_bits binary64 b) (of_bits binary64 most) ≡ true → ⊥
    over k l e =
        let up = grows most b l k in
        let v = bits-value b k in
        let w = bits-value most finite in
        let p = positive_of_value (of_bits binary64 b) (count (field b) (digits b)) (2 ^ low binary64) v (omega arith) in
        let some-units = counts (field most) (digits most) (omega arith) in
        let q = positive_of_value (of_bits binary64 most) (count (field most) (digits most)) (2 ^ low binary64) w some-units in
        let t : T (le (of_bits binary64 b) (of_bits binary64 most)) = rw e tt in
        let h = values_of_le (of_bits binary64 b) (of_bits binary64 most) (count (field b) (digits b)) (2 ^ low binary64)
        (count (field most) (digits most)) (2 ^ low binary64) p q v w t in
        not-both (count (field most) (digits most)) (count (field b) (digits b)) (2 ^ low binary64) h (mul-lt-mul_of_pos_right up (pow_pos (low binary64)))
