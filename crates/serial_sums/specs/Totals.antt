-- Sums of lengths with their marks. Document 02: "Everything that sums or compares lengths receives the new answer; a chain's total is said to be
-- exact exactly if each part is. The f64 values are unchanged."
use Rattle.std.specs.Prelude.{Bool, ◌&&◌, List, map, Float}
use Rattle.order.specs.Tests.{every}
use Rattle.length.specs.Floats.{◌⊕◌}
use Rattle.length.specs.declared.Length.{Length}
use Rattle.serial_sums.specs.Sums.{sum_of, ascending_sum}

abbrev pub length_value : Length → Float
length_value x = x.value

abbrev pub is_exact : Length → Bool
is_exact x = x.exact

-- "exactly if each part is"
abbrev pub all_exact : List Length → Bool
all_exact ls = every is_exact ls

-- Two lengths added up.
abbrev pub length_plus : Length → Length → Length
length_plus x y = record { value = x.value ⊕ y.value; exact = x.exact && y.exact }

-- In the order of the list.
abbrev pub total_of : List Length → Length
total_of ls = record { value = sum_of (map length_value ls); exact = all_exact ls }

-- A chain's total: in ascending order of the values.
abbrev pub ascending_total : List Length → Length
ascending_total ls = record { value = ascending_sum (map length_value ls); exact = all_exact ls }
