use Rattle.probe.specs.Records.{OwnersRise}
use Rattle.probe.proofs.bare_records.first_fall.Given as goal

-- the owners before record k do not fall
abbrev pub invariant-loop-k : goal.invariant-loop-k
invariant-loop-k l = OwnersRise l.records l.k
