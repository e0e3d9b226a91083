use mathlib.Core.List.{map}
use Prim.Native.Nat.{ℕ, ◌^◌, ◌≤◌, ◌<◌}
use lib.ListN.{get_or}
use Rattle.order.specs.Lists.{up_from}
use Rattle.serial_sums.specs.Parts.{PartsOf}
use Rattle.probe.proofs.LengthLaws.{length_term}
use Rattle.probe.proofs.own_lengths.total_of.Given as goal

abbrev pub invariant-loop-d : goal.invariant-loop-d
invariant-loop-d l =
    ((i : ℕ) → i < l.d-index → get_or l.ds i 0 ≤ 2 ^ 29) × PartsOf l.parts (map (length_term l.ds) (up_from 0 l.d-index))
