use lib.ListN.{length}
use Rattle.serial_walk.specs.Slices.{IncidenceLists}
use Rattle.serial_walk.proofs.chaining.full_graph.Given as goal

abbrev pub invariant-loop-k : goal.invariant-loop-k
invariant-loop-k l = IncidenceLists l.count (length l.initial.heads) l.lefts l.rights l.heads l.left_nexts l.right_nexts l.k
