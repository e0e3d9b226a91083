-- A width with a tolerance added is at least the width.
use mathlib.Core.Path.{◌≡◌, refl, sym, ◌∙◌, ap, subst}
use mathlib.Core.Logic.{by_cases}
use mathlib.Core.Bool.{Bool, true, false, true≢false, ◌&&◌}
use Prim.Native.Nat.{ℕ, zero, suc, ◌+◌, ◌-◌, ◌*◌, ◌/◌, ◌%◌, ◌^◌, ◌<◌, ◌≤◌}
use native.Mathlib.Nat.{mul_assoc, mul_comm, mul_left_comm, mul-pos, mul-le-mul_right, mul-lt-mul_of_pos_right, lt_of_mul-lt-mul_right}
use native.Mathlib.Omega.{arith}
use native.Mathlib.Decide.{dec_le}
use borrow.Author.Tests.{ne_eqb, lt-leb}
use lib.Dec.{T, leb, ltb, eqb, leb→le, ltb→lt, lt→ltb}
use lib.IntN.{ℤ, pos, negsuc}
use lib.Pow.{pow-add, pow-lt, pow_pos}
use lib.Ieee.{Float, nan, inf, fin, binary64, prec, emax, low, up, down, fits, round, add, le, of_bits, of_fields}
use lib.Ieee.Bits.{is_true, of_bits-fits}
use lib.Ieee.Exact.{HasValue, odd_sign, round_exact}
use lib.Ieee.Fits.{and_l, and_r, up_pos, down_pos}
use lib.Ieee.Order.{le_of_values, round_mono}
use lib.Ieee.Positive.{positive, above, positive_of_value, above_of_le, le_trans_positive}
use Rattle.length.specs.Floats.{◌⊕◌, finite_up}
use Rattle.format.specs.Bounds.{max_width_bits}

-- 2 ^ e, in units of 2 ^ -l, is a power of two
lifted : (l : ℕ) (e : ℤ) → down e ≤ 2 ^ l → (j : ℕ) × (up e * 2 ^ l ≡ 2 ^ j * down e)
lifted l (pos k) h = (k + l, sym (pow-add 2 k l) ∙ (let z : 2 ^ (k + l) ≡ 2 ^ (k + l) * 1 = omega arith in z))
lifted l (negsuc k) h =
    by_cases (dec_le (suc k) l)
    (λ s. (
      l - suc k,
      (let z : 1 * 2 ^ l ≡ 2 ^ l = omega arith in z)
          ∙ (ap (λ (i : ℕ). 2 ^ i) (let z : l ≡ l - suc k + suc k = omega arith in z) ∙ pow-add 2 (l - suc k) (suc k)),
    ))
    (λ s. absurd (omega (arith, pow-lt {i = l} {j = suc k} (omega arith))))

-- q · u / d below m, and u · k = p · d: q · p is below k · m
under : (q u d p k m : ℕ) → 0 < k → u * k ≡ p * d → q * u < m * d → q * p < k * m
under q u d p k m K e h =
    lt_of_mul-lt-mul_right d
    (let z : q * u * k < m * d * k = mul-lt-mul_of_pos_right h K in
    let x : q * p * d ≡ q * u * k = simp (mul_assoc, mul_comm) (simp mul_comm at (ap (λ (y : ℕ). q * y) (sym e))) in
    let y : k * m * d ≡ m * d * k = simp (mul_assoc, mul_comm, mul_left_comm) in
    omega arith)

-- a number of the format, as a fraction whose terms have a common factor, is rounded to itself
rounds-to-itself : (m : ℕ) (e : ℤ) (u c : ℕ) → 0 < u → c ≡ down e * u → T (fits binary64 (fin false (suc m) e))
    → HasValue (round binary64 false (suc m * up e * u) c) false (suc m * up e * u) c
unfolding fits
rounds-to-itself m e u c U C h =
    subst (λ (z : ℕ). HasValue (round binary64 false (suc m * up e * u) z) false (suc m * up e * u) z) (sym C)
    (round_exact binary64 false (suc m * up e * u) (down e * u) (suc m) j.0 (mul-pos (down_pos e) U)
    (ltb→lt (suc m) (2 ^ 53) (and_r (eqb (suc m % 2) 1) (ltb (suc m) (2 ^ 53)) parts.0))
    (subst (λ (z : ℕ). suc m * 2 ^ j.0 < z) (sym (pow-add 2 1074 1024))
    (under (suc m) (up e) (down e) (2 ^ j.0) (2 ^ 1074) (2 ^ 1024) (pow_pos 1074) j.1
    (ltb→lt (suc m * up e) (2 ^ 1024 * down e) (and_r front (ltb (suc m * up e) (2 ^ 1024 * down e)) h))))
    (same (suc m) (up e) (down e) (2 ^ j.0) (2 ^ 1074) u j.1))
  where
    front : Bool
    front = eqb (suc m % 2) 1 && ltb (suc m) (2 ^ 53) && leb (down e) (2 ^ 1074)

    parts : T (eqb (suc m % 2) 1 && ltb (suc m) (2 ^ 53)) × T (leb (down e) (2 ^ 1074))
    parts =
        let p = and_l front (ltb (suc m * up e) (2 ^ 1024 * down e)) h in (
          and_l (eqb (suc m % 2) 1 && ltb (suc m) (2 ^ 53)) (leb (down e) (2 ^ 1074)) p,
          and_r (eqb (suc m % 2) 1 && ltb (suc m) (2 ^ 53))
              (leb (down e) (2 ^ 1074)) p,
        )

    j : (j : ℕ) × (up e * 2 ^ 1074 ≡ 2 ^ j * down e)
    j = lifted 1074 e (leb→le (down e) (2 ^ 1074) parts.1)

    same : (q a d p k b : ℕ) → a * k ≡ p * d → q * a * b * k ≡ q * p * (d * b)
    same q a d p k b e = simp (mul_assoc, mul_comm, mul_left_comm) (simp (mul_assoc, mul_comm, mul_left_comm) at (ap (λ (y : ℕ). q * b * y) e))

-- zero, and what is at most something positive, is at most what lies above
zero-le : (e : ℤ) (z : Float) → T (above z) → T (le (fin false 0 e) z)
unfolding le
zero-le e nan h = absurd h
zero-le e (inf true) h = absurd h
zero-le e (inf false) h = tt
zero-le e (fin true n d) h = absurd h
zero-le e (fin false n d) h =
    le_of_values (fin false 0 e) (fin false n d) 0 1 (n * up d) (down d) (omega arith) (down_pos d)
    (refl, (let z : 0 * up e * 1 ≡ 0 * down e = omega arith in z)) (refl, refl) (omega arith)

above-le : (m : ℕ) (e : ℤ) (r z : Float) → T (positive r) → T (le (fin false (suc m) e) r) → T (le r z) → T (above z) → T (le (fin false (suc m) e) z)
unfolding le
above-le m e r nan p h k a = absurd a
above-le m e r (inf true) p h k a = absurd a
above-le m e r (inf false) p h k a = tt
above-le m e r (fin true n d) p h k a = absurd a
above-le m e r (fin false n d) p h k a = le_trans_positive (fin false (suc m) e) r (fin false n d) (lt→ltb 0 (suc m) (omega arith)) p a h k

sum-above : (m n : ℕ) (e d : ℤ) → T (fits binary64 (fin false m e)) → T (fits binary64 (fin false (suc n) d))
    → T (le (fin false m e) (add binary64 (fin false m e) (fin false (suc n) d)))
unfolding add
sum-above m n e d h k = go m h
  where
    b : ℕ
    b = suc n * up d * down e

    c : ℕ
    c = down e * down d

    C : 0 < c
    C = mul-pos (down_pos e) (down_pos d)

    -- the tolerance alone is above zero, and so is the sum
    tall : (a : ℕ) → T (above (round binary64 false (a + b) c))
    tall a =
        above_of_le (round binary64 false b c) (round binary64 false (a + b) c)
        (positive_of_value (round binary64 false b c) b c (rounds-to-itself n d (down e) c (down_pos e) (mul_comm (down e) (down d)) k)
        (mul-pos (mul-pos (let z : 0 < suc n = omega arith in z) (up_pos d)) (down_pos e)))
        (round_mono binary64 b c (a + b) c C C (mul-le-mul_right c (omega arith)))

    go : (m : ℕ) → T (fits binary64 (fin false m e)) → T (le (fin false m e) (round binary64 false (m * up e * down d + b) c))
    go zero h = zero-le e (round binary64 false (0 * up e * down d + b) c) (tall (0 * up e * down d))
    go (suc m) h =
        let a : ℕ = suc m * up e * down d in
        let v : HasValue (round binary64 false a c) false a c = rounds-to-itself m e (down d) c (down_pos d) refl h in
        let o : HasValue (fin false (suc m) e) false a c = (refl, simp (mul_assoc, mul_comm, mul_left_comm)) in
        above-le m e (round binary64 false a c) (round binary64 false (a + b) c)
        (positive_of_value (round binary64 false a c) a c v (mul-pos (mul-pos (let z : 0 < suc m = omega arith in z) (up_pos e)) (down_pos d)))
        (le_of_values (fin false (suc m) e) (round binary64 false a c) a c a c C C o v (omega arith))
        (round_mono binary64 a c (a + b) c C C (mul-le-mul_right c (omega arith)))
        (tall a)

nothing : (a b k p c : ℕ) → 0 * a * b * k ≡ 0 * p * c
nothing a b k p c = omega arith

-- a number and a zero: the sum is the number
zero-above : (m : ℕ) (e d : ℤ) → T (fits binary64 (fin false m e)) → T (le (fin false m e) (add binary64 (fin false m e) (fin false 0 d)))
unfolding add
zero-above m e d h = go m h
  where
    c : ℕ
    c = down e * down d

    C : 0 < c
    C = mul-pos (down_pos e) (down_pos d)

    itself : (m : ℕ) → HasValue (round binary64 false (m * up e * down d) c) false (m * up e * down d) c
        → T (le (fin false m e) (round binary64 false (m * up e * down d + 0 * up d * down e) c))
    itself m v =
        let a : ℕ = m * up e * down d in
        let o : HasValue (fin false m e) false a c = (refl, simp (mul_assoc, mul_comm, mul_left_comm)) in
        let z : a ≡ a + 0 * up d * down e = omega arith in
        subst (λ (k : ℕ). T (le (fin false m e) (round binary64 false k c))) z
        (le_of_values (fin false m e) (round binary64 false a c) a c a c C C o v (omega arith))

    go : (m : ℕ) → T (fits binary64 (fin false m e)) → T (le (fin false m e) (round binary64 false (m * up e * down d + 0 * up d * down e) c))
    go zero h =
        itself 0 (round_exact binary64 false (0 * up e * down d) c 0 0 C (pow_pos 53) (pow_pos (low binary64 + suc (emax binary64)))
        (nothing (up e) (down d) (2 ^ low binary64) (2 ^ 0) c))
    go (suc m) h = itself (suc m) (rounds-to-itself m e (down d) c (down_pos d) refl h)

-- two numbers that are not negative
plus-above : (x t : Float) (a c : ℕ) → HasValue x false a c → T (fits binary64 x) → T (finite_up t) → T (fits binary64 t) → T (le x (x ⊕ t))
plus-above nan t a c v h p k = absurd v
plus-above (inf s) t a c v h p k = absurd v
plus-above (fin true m e) t a c v h p k = absurd (true≢false v.0)
plus-above (fin false m e) nan a c v h p k = absurd p
plus-above (fin false m e) (inf s) a c v h p k = absurd p
plus-above (fin false m e) (fin true n d) a c v h p k = absurd p
plus-above (fin false m e) (fin false zero d) a c v h p k = zero-above m e d h
plus-above (fin false m e) (fin false (suc n) d) a c v h p k = sum-above m n e d h k

-- the bits of a width are those of such a number
width-value : (b : ℕ) → b ≤ max_width_bits → (a : ℕ) × (c : ℕ) × HasValue (of_bits binary64 b) false a c
unfolding of_bits
width-value b h = rw plain (fields (b % 0x8000_0000_0000_0000 / 0x10_0000_0000_0000) (omega arith) (b % 0x10_0000_0000_0000))
  where
    plain : leb 0x8000_0000_0000_0000 b ≡ false
    plain = lt-leb 0x8000_0000_0000_0000 b (omega arith)

    fields : (x : ℕ) → x < 2047 → (t : ℕ) → (a : ℕ) × (c : ℕ) × HasValue (of_fields binary64 false x t) false a c
    fields zero l t = (t * 2 ^ 0, 2 ^ low binary64, odd_sign (prec binary64) false t 0 (low binary64))
    fields (suc x) l t =
        let e : eqb (suc x) 2047 ≡ false = ne_eqb (suc x) 2047 (λ z. omega arith) in
        rw e ((0x10_0000_0000_0000 + t) * 2 ^ x, 2 ^ low binary64, odd_sign (prec binary64) false (0x10_0000_0000_0000 + t) x (low binary64))

pub wider : (b : ℕ) → b ≤ max_width_bits → (t : Float) → T (finite_up t) → T (fits binary64 t) → le (of_bits binary64 b) (of_bits binary64 b ⊕ t) ≡ true
wider b h t p k = let w = width-value b h in is_true (le (of_bits binary64 b) (of_bits binary64 b ⊕ t))
    (plus-above (of_bits binary64 b) t w.0 w.1 w.2 (of_bits-fits binary64 b) p k)
