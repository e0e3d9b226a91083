-- The numbers that are written as bits are those that they stand for.
use mathlib.Core.Path.{◌≡◌, refl}
use mathlib.Core.Bool.{false}
use lib.Ieee.{binary64, of_bits, of_int, round, div}
use Rattle.length.specs.Floats.{◌⊘◌, whole_float}
use Rattle.serial_links.specs.Limits.{limits000}
use Rattle.serial_links.specs.Geometry.{one_and_half, two, float4, float8}

pub chain-is : limits000.chain ≡ whole_float 384
unfolding of_bits of_int
chain-is = refl

pub width_is : limits000.width ≡ whole_float 8
unfolding of_bits of_int
width_is = refl

pub geometry-is : limits000.geometry ≡ whole_float 16
unfolding of_bits of_int
geometry-is = refl

pub duplicate-is : limits000.duplicate ≡ whole_float 128
unfolding of_bits of_int
duplicate-is = refl

pub envelope-is : limits000.envelope ≡ whole_float 32
unfolding of_bits of_int
envelope-is = refl

-- the f64 nearest to 0.9659258262890683
pub cosine-is : limits000.cosine ≡ round binary64 false 9659258262890683 10000000000000000
unfolding of_bits round
cosine-is = refl

pub one-and-half-is : one_and_half ≡ whole_float 3 ⊘ whole_float 2
unfolding of_bits of_int div
one-and-half-is = refl

pub two_is : two ≡ whole_float 2
unfolding of_bits of_int
two_is = refl

pub four_is : float4 ≡ whole_float 4
unfolding of_bits of_int
four_is = refl

pub eight_is : float8 ≡ whole_float 8
unfolding of_bits of_int
eight_is = refl
