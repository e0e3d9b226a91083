use lib.ListN.{get_or}
use Rattle.probe.specs.Parting.{count_bytes}
use Rattle.probe.proofs.WritingLaws.{length_two, Filled}
use Rattle.probe.proofs.own_partition.write_counts.Given as goal

abbrev pub invariant-loop-i : goal.invariant-loop-i
invariant-loop-i l =
    Filled 8 (λ j. count_bytes (get_or l.removed j 0) (get_or l.separated j 0))
    (λ j. length_two (get_or l.removed j 0) (get_or l.separated j 0)) l.initial.out 8 l.i l.out
