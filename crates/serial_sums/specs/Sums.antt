-- Sums of distances. They begin with their first term; 000's begin with a zero, which changes no sum of one distance or more.
use Rattle.std.specs.Prelude.{Bool, not, List, [], ◌∷◌, ℕ, ◌<◌, T, Float, get_or}
use Rattle.std.specs.Float.{binary64}
use Rattle.std.specs.Float.Ieee.{of_bits, to_bits, nan_bits}
use Rattle.order.specs.Sorting.{sort}
use Rattle.length.specs.Floats.{◌⊕◌}
use Rattle.length.specs.Total.{total_le}

unfoldable pub added_to : Float → List Float → Float
added_to s [] = s
added_to s (x ∷ xs) = added_to (s ⊕ x) xs

-- In the order of the list.
unfoldable pub sum_of : List Float → Float
sum_of [] = of_bits binary64 0
sum_of (x ∷ xs) = added_to x xs

-- x comes no later than y, as `total_cmp` has them.
abbrev pub no_later : Float → Float → Bool
no_later x y = total_le (to_bits binary64 x) (to_bits binary64 y)

-- A chain's sum, in ascending order.
unfoldable pub ascending_sum : List Float → Float
ascending_sum xs = sum_of (sort no_later xs)

-- None of the first n bit patterns is a NaN's.
abbrev pub Patterns : ℕ → List ℕ → Type 0
Patterns n bits = (i : ℕ) → i < n → T (not (nan_bits binary64 (get_or bits i 0)))
