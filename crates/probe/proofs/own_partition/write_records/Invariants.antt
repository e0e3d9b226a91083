use lib.ListN.{get_or}
use Rattle.graph.specs.Records.{record_in}
use Rattle.probe.specs.Parting.{record_bytes}
use Rattle.probe.proofs.WritingLaws.{length_three, Filled}
use Rattle.probe.proofs.own_partition.write_records.Given as goal

abbrev pub invariant-loop-k : goal.invariant-loop-k
invariant-loop-k l =
    Filled 12 (λ j. record_bytes (record_in l.records.owners l.records.lefts l.records.rights j))
    (λ j. length_three (get_or l.records.owners j 0) (get_or l.records.lefts j 0) (get_or l.records.rights j 0))
    l.initial.out l.at l.k l.out
