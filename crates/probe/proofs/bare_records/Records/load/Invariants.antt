use Rattle.probe.specs.Records.{Loaded}
use Rattle.probe.proofs.bare_records.Records.load.Given as goal

abbrev pub invariant-loop-k : goal.invariant-loop-k
invariant-loop-k l = Loaded l.records l.k l.self.owners l.self.lefts l.self.rights
