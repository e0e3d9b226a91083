-- f64s as fractions: the digits that they have, and that two plain ones are the same if they are the same number.
use mathlib.Core.Path.{◌≡◌, refl, sym, ap, ◌∙◌}
use mathlib.Core.Bool.{Bool, true, false, true≢false, ◌&&◌}
use Prim.Native.Nat.{ℕ, zero, suc, ◌+◌, ◌-◌, ◌*◌, ◌/◌, ◌%◌, ◌^◌, ◌<◌}
use native.Mathlib.Nat.{mul_right_comm}
use lib.IntN.{ℤ}
use lib.Dec.{T, leb, ltb, eqb, eqb→eq, ltb→lt}
use lib.Pow.{pow_pos}
use lib.Ieee.{Float, nan, inf, fin, binary64, fits, up, down, to_bits, of_bits, size, hid}
use lib.Ieee.Bits.{of_bits-to_bits}
use lib.Ieee.Fits.{down_pos, and_l, and_r}
use lib.Ieee.Exact.{HasValue}
use lib.Ieee.Nearest.{div_same}
use Rattle.length.specs.Nearest.{PlainFloat, plain, num, den}

pub den_pos : (x : Float) → 0 < den x
den_pos nan = pow_pos 0
den_pos (inf s) = pow_pos 0
den_pos (fin s m e) = down_pos e

-- the m of an f64 that is not zero is odd, and has at most 53 digits
odd-few : (s : Bool) (m : ℕ) (e : ℤ) → T (fits binary64 (fin s (suc m) e)) → T (eqb (suc m % 2) 1 && ltb (suc m) (2 ^ 53))
unfolding fits
odd-few s m e h =
    and_l (eqb (suc m % 2) 1 && ltb (suc m) (2 ^ 53)) (leb (down e) (2 ^ 1074))
    (and_l (eqb (suc m % 2) 1 && ltb (suc m) (2 ^ 53) && leb (down e) (2 ^ 1074)) (ltb (suc m * up e) (2 ^ 1024 * down e)) h)

pub odd_part : (s : Bool) (m : ℕ) (e : ℤ) → T (fits binary64 (fin s (suc m) e)) → suc m % 2 ≡ 1
odd_part s m e h = eqb→eq (suc m % 2) 1 (and_l (eqb (suc m % 2) 1) (ltb (suc m) (2 ^ 53)) (odd-few s m e h))

pub digits : (s : Bool) (m : ℕ) (e : ℤ) → T (fits binary64 (fin s m e)) → m < 2 ^ 53
digits s zero e h = pow_pos 53
digits s (suc m) e h = ltb→lt (suc m) (2 ^ 53) (and_r (eqb (suc m % 2) 1) (ltb (suc m) (2 ^ 53)) (odd-few s m e h))

-- the bit pattern of a plain f64 depends on the number alone
bits : (x : Float) → T (plain x)
    → to_bits binary64 x ≡ 0 + (size (num x * 2 ^ 1074 / den x) - 53) * hid binary64 + num x * 2 ^ 1074 / den x / 2 ^ (size (num x * 2 ^ 1074 / den x) - 53)
unfolding to_bits
bits nan p = absurd p
bits (inf s) p = absurd p
bits (fin true m e) p = absurd p
bits (fin false m e) p = refl

pub same_number : (x y : Float) → PlainFloat x → PlainFloat y → num x * den y ≡ num y * den x → x ≡ y
same_number x y p q e =
    let n : num x * 2 ^ 1074 / den x ≡ num y * 2 ^ 1074 / den y =
    div_same (num x * 2 ^ 1074) (den x) (num y * 2 ^ 1074) (den y) (den_pos x) (den_pos y)
    (mul_right_comm (num x) (2 ^ 1074) (den y) ∙ ap (λ (z : ℕ). z * 2 ^ 1074) e ∙ mul_right_comm (num y) (den x) (2 ^ 1074)) in
    sym (of_bits-to_bits binary64 x p.held)
    ∙ ap (of_bits binary64) (bits x p.plain ∙ ap (λ (z : ℕ). 0 + (size z - 53) * hid binary64 + z / 2 ^ (size z - 53)) n ∙ sym (bits y q.plain))
    ∙ of_bits-to_bits binary64 y q.held

-- a float of the value a / c is that fraction
pub cross : (x : Float) (a c : ℕ) → HasValue x false a c → num x * c ≡ a * den x
cross nan a c h = absurd h
cross (inf s) a c h = absurd h
cross (fin s m e) a c h = h.1

pub is_plain : (x : Float) (a c : ℕ) → HasValue x false a c → T (plain x)
is_plain nan a c h = absurd h
is_plain (inf s) a c h = absurd h
is_plain (fin true m e) a c h = absurd (true≢false h.0)
is_plain (fin false m e) a c h = tt
