-- Lengths and their sums are no NaNs.
use mathlib.Core.Bool.{Bool, true, false, cond}
use Prim.Native.Nat.{ℕ, zero, suc, ◌+◌, ◌-◌, ◌*◌, ◌/◌, ◌%◌, ◌^◌, ◌<◌, compare}
use native.Mathlib.Omega.{arith}
use lib.Dec.{T, ltb}
use lib.Ieee.{Float, nan, inf, fin, binary64, prec, emax, low, up, down, size, nearest, add, sum, round, neg, is_nan, units, odd, fits, to_bits}
use lib.Ieee.Bits.{to_bits-lt}
use lib.Ieee.Fits.{round-fits, neg-fits}
use Rattle.length.specs.Root.{whole_root}
use Rattle.length.specs.Length.{root_places, halved, length_of}
use Rattle.length.specs.Floats.{◌⊕◌}
use Rattle.serial_sums.specs.Numbers.{Number, upward}

pub upward-number : (x : Float) → T (upward x) → Number x
unfolding is_nan
upward-number nan h = h
upward-number (inf s) h = tt
upward-number (fin s m e) h = tt

odd-upward : (d q k l : ℕ) → T (upward (odd d false q k l))
unfolding odd
odd-upward d zero k l = tt
odd-upward d (suc q) k l = tt

pick : (t : Bool) (x y : Float) → T (upward x) → T (upward y) → T (upward (cond t x y))
pick true x y h k = h
pick false x y h k = k

units-upward : (q k : ℕ) → T (upward (units binary64 false q k))
unfolding units
units-upward q k =
    pick (ltb (q * 2 ^ k) (2 ^ (low binary64 + suc (emax binary64)))) (odd (suc (prec binary64)) false q k (low binary64)) (inf false)
    (odd-upward (suc (prec binary64)) q k (low binary64))
    tt

round-upward : (n d : ℕ) → T (upward (round binary64 false n d))
unfolding round
round-upward n d =
    let m = n * 2 ^ low binary64 in
    let k = size (m / d) - prec binary64 in
    let u = d * 2 ^ k in
    units-upward (nearest (m / u) (compare (m % u * 2) u)) k

pub sum-upward : (x y : Float) → T (upward x) → T (upward y) → T (upward (x ⊕ y))
unfolding add sum
sum-upward nan y h k = absurd h
sum-upward (inf true) y h k = absurd h
sum-upward (inf false) nan h k = absurd k
sum-upward (inf false) (inf true) h k = absurd k
sum-upward (inf false) (inf false) h k = tt
sum-upward (inf false) (fin t n d) h k = tt
sum-upward (fin s m e) nan h k = absurd k
sum-upward (fin s m e) (inf t) h k = k
sum-upward (fin true m e) (fin t n d) h k = absurd h
sum-upward (fin false m e) (fin true n d) h k = absurd k
sum-upward (fin false m e) (fin false n d) h k = round-upward (m * up e * down d + n * up d * down e) (down e * down d)

pub length-upward : (d : ℕ) → T (upward (length_of d))
unfolding length_of
length-upward d = round-upward (halved (whole_root (d * 2 ^ (2 * root_places d)))) (2 ^ root_places d)

-- a length is an f64
pub length-fits : (d : ℕ) → T (fits binary64 (length_of d))
unfolding length_of
length-fits d = round-fits binary64 false (halved (whole_root (d * 2 ^ (2 * root_places d)))) (2 ^ root_places d)

-- a number that is not negative has bits below the sign's
sign-apart : (a b t : ℕ) → t + a + b < 2 * t → 0 + a + b < t
sign-apart a b t h = omega arith

pub upward-bits : (x : Float) → T (upward x) → T (fits binary64 x) → to_bits binary64 x < 0x8000_0000_0000_0000
unfolding to_bits neg
upward-bits nan h f = absurd h
upward-bits (inf true) h f = absurd h
upward-bits (inf false) h f = omega arith
upward-bits (fin true m e) h f = absurd h
upward-bits (fin false m e) h f =
    let n = m * up e * 2 ^ low binary64 / down e in
    let k = size n - prec binary64 in
    sign-apart (k * 2 ^ 52) (n / 2 ^ k) (2 ^ 63) (to_bits-lt binary64 (fin true m e) (neg-fits binary64 (fin false m e) f))
