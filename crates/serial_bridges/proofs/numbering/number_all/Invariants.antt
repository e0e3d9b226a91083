use Rattle.serial_bridges.specs.Names.{EndNumbers}
use Rattle.serial_bridges.proofs.numbering.number_all.Given as goal

abbrev pub invariant-loop-k : goal.invariant-loop-k
invariant-loop-k l = EndNumbers l.count l.lefts l.rights l.regions l.base l.initial.work l.work l.small_lefts l.small_rights l.k
