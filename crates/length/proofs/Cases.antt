-- Roots, lengths and the total order of bit patterns, by computing.
use mathlib.Core.Path.{◌≡◌, refl}
use mathlib.Core.Bool.{true, false}
use mathlib.Core.List.{List, [], ◌∷◌, map}
use Prim.Native.Nat.{ℕ}
use lib.Ieee.{binary64, of_bits, of_int}
use Rattle.order.specs.Sorting.{sort, insert}
use Rattle.length.specs.Root.{whole_root, rest_of, is_square}
use Rattle.length.specs.Length.{length_of, length_at}
use Rattle.length.specs.Total.{total_le}
use Rattle.length.specs.Cases.{LengthCase}

pub length-case : LengthCase
unfolding length_of of_int
length-case = record { case1 = refl }

roots : map whole_root (0 ∷ 1 ∷ 3 ∷ 4 ∷ 99 ∷ 100 ∷ 120 ∷ 0x2000_0000 ∷ []) ≡ 0 ∷ 1 ∷ 1 ∷ 2 ∷ 9 ∷ 10 ∷ 10 ∷ 23170 ∷ []
unfolding whole_root
roots = refl

rests : map rest_of (0 ∷ 1 ∷ 3 ∷ 4 ∷ 99 ∷ 100 ∷ 120 ∷ 0x2000_0000 ∷ []) ≡ 0 ∷ 0 ∷ 2 ∷ 0 ∷ 18 ∷ 0 ∷ 20 ∷ 22012 ∷ []
unfolding rest_of
rests = refl

squares : map is_square (0 ∷ 1 ∷ 2 ∷ 99 ∷ 100 ∷ 101 ∷ []) ≡ true ∷ true ∷ false ∷ false ∷ true ∷ false ∷ []
unfolding is_square
squares = refl

-- the marks of lengths: of squares, and of numbers beside them
marks : map (λ (d : ℕ). (length_at d).exact) (0 ∷ 1 ∷ 2 ∷ 3 ∷ 4 ∷ 5 ∷ 9 ∷ 99 ∷ 100 ∷ 101 ∷ [])
    ≡ true ∷ true ∷ false ∷ false ∷ true ∷ false ∷ true ∷ false ∷ true ∷ false ∷ []
unfolding is_square
marks = refl

-- √2 ÷ 2 is rounded up, √3 ÷ 2 down; the longest length
irrational : map length_of (2 ∷ 3 ∷ 0x2000_0000 ∷ []) ≡ map (of_bits binary64) (0x3FE6_A09E_667F_3BCD ∷ 0x3FEB_B67A_E858_4CAA ∷ 0x40C6_A09E_667F_3BCD ∷ [])
unfolding length_of of_bits
irrational = refl

-- NaN patterns at both ends, −∞, −1, −0, +0, 1, ∞
abbrev ascending : List ℕ
ascending =
    0xFFFF_FFFF_FFFF_FFFF ∷ 0xFFF0_0000_0000_0000 ∷ 0xBFF0_0000_0000_0000 ∷ 0x8000_0000_0000_0000 ∷ 0 ∷ 0x3FF0_0000_0000_0000 ∷ 0x7FF0_0000_0000_0000
    ∷ 0x7FF8_0000_0000_0000 ∷ []

in-total-order :
    sort total_le (0 ∷ 0x7FF8_0000_0000_0000 ∷ 0xBFF0_0000_0000_0000 ∷ 0xFFFF_FFFF_FFFF_FFFF ∷ 0x3FF0_0000_0000_0000 ∷ 0x8000_0000_0000_0000
    ∷ 0x7FF0_0000_0000_0000 ∷ 0xFFF0_0000_0000_0000 ∷ []) ≡ ascending
unfolding sort insert total_le
in-total-order = refl
