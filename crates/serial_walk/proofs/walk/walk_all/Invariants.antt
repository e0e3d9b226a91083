use lib.ListN.{length}
use Rattle.serial_walk.specs.Slices.{Between}
use Rattle.serial_walk.proofs.walk.walk_all.Given as goal

abbrev pub invariant-loop-r : goal.invariant-loop-r
invariant-loop-r l =
    Between l.count (length l.heads) l.owners l.lefts l.rights l.disc l.stack l.parents l.nexts l.lows l.marks l.r l.time
