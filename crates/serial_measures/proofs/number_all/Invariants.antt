use Rattle.serial_measures.specs.Tables.{Written}
use Rattle.serial_measures.proofs.number_all.Given as goal

abbrev pub invariant-loop-k : goal.invariant-loop-k
invariant-loop-k l = Written l.initial.work l.work l.n l.regions l.k
