-- A few sums, by computing.
use mathlib.Core.Path.{◌≡◌, refl}
use mathlib.Core.Bool.{true, false}
use mathlib.Core.List.{List, [], ◌∷◌, map}
use Prim.Native.Nat.{ℕ}
use lib.Ieee.{Float, binary64, add, of_bits, to_bits}
use Rattle.order.specs.Sorting.{sort}
use Rattle.order.specs.Tests.{every}
use Rattle.length.specs.Root.{is_square}
use Rattle.length.specs.Length.{length_of, length_at}
use Rattle.length.specs.Total.{total_le}
use Rattle.serial_sums.specs.Sums.{added_to, sum_of, ascending_sum}
use Rattle.serial_sums.specs.Totals.{length_plus, total_of, ascending_total}

-- the lengths √10 ÷ 2, √2 ÷ 2, 1 ÷ 2 add up to another f64 as they are listed than in ascending order
abbrev lengths : List Float
lengths = map length_of (10 ∷ 2 ∷ 1 ∷ [])

in_order : (sum_of lengths ≡ of_bits binary64 0x4006_4E53_B70C_FC9D) × (ascending_sum lengths ≡ of_bits binary64 0x4006_4E53_B70C_FC9C)
unfolding sum_of ascending_sum added_to sort total_le to_bits length_of of_bits add
in_order = (refl, refl)

-- 5 and 3; with √2 ÷ 2 as the least part, the last listed, and the greatest; and √2 ÷ 2 and √8 ÷ 2 alone
marks :
    map (λ (ds : List ℕ). (ascending_total (map length_at ds)).exact) ((100 ∷ 36 ∷ []) ∷ (2 ∷ 100 ∷ []) ∷ (100 ∷ 2 ∷ []) ∷ (1 ∷ 2 ∷ 1 ∷ []) ∷ (2 ∷ 8 ∷ []) ∷ [])
    ≡ true ∷ false ∷ false ∷ false ∷ false ∷ []
unfolding every is_square
marks = refl

-- two lengths, and the list of the two
plus-two : (length_plus (length_at 100) (length_at 2) ≡ total_of (length_at 100 ∷ length_at 2 ∷ []))
    × ((length_plus (length_at 100) (length_at 2)).exact ≡ false)
unfolding every is_square sum_of added_to
plus-two = (refl, refl)

-- no part is exact, yet twice the rounded total is whole: 147.5
rounded-whole : ((ascending_total (map length_at (3619 ∷ 9711 ∷ 18577 ∷ []))).value ≡ of_bits binary64 0x4062_7000_0000_0000)
    × ((ascending_total (map length_at (3619 ∷ 9711 ∷ 18577 ∷ []))).exact ≡ false)
unfolding ascending_sum sum_of added_to sort total_le to_bits length_of of_bits add every is_square
rounded-whole = (refl, refl)
