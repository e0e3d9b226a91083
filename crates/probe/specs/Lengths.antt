-- Lengths and totals, by their squares.
use Rattle.std.specs.Prelude.{Bool, cond, ◌&&◌, List, [], ◌∷◌, map, ℕ, ◌^◌, leb, take}
use Rattle.order.specs.Tests.{every}
use Rattle.context.specs.Held.{one}
use Rattle.length.specs.Length.{length_at}
use Rattle.length.specs.declared.Length.{Length}
use Rattle.serial_sums.specs.Totals.{ascending_total}
use Rattle.probe.specs.Links.{float_bits}
use Rattle.probe.specs.declared.own_lengths.ProbeLength.{ProbeLength}

-- The bits of a length, and 1 if it is exact, 0 if not.
abbrev pub length_words : Length → ProbeLength
length_words x = record { bits = float_bits x.value; exact = one x.exact }

abbrev pub no_length : ProbeLength
no_length = record { bits = 0; exact = 2 }

-- No map has a larger D.
abbrev pub on_map : ℕ → Bool
on_map d = leb d (2 ^ 29)

abbrev pub length_answer : ℕ → ProbeLength
length_answer d = cond (on_map d) (length_words (length_at d)) no_length

-- Of one to three.
abbrev pub total_answer : List ℕ → ProbeLength
total_answer ds = cond (every on_map ds) (length_words (ascending_total (map length_at ds))) no_length

abbrev pub chain_answer : ℕ → ℕ → ℕ → ℕ → ProbeLength
chain_answer count d e f = cond (leb 1 count && leb count 3) (total_answer (take count (d ∷ e ∷ f ∷ []))) no_length
