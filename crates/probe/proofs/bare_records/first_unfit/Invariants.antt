use Rattle.probe.specs.Records.{AllFit}
use Rattle.probe.proofs.bare_records.first_unfit.Given as goal

abbrev pub invariant-loop-k : goal.invariant-loop-k
invariant-loop-k l = AllFit l.records l.regions l.k
