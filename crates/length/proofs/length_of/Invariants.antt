-- The loop's invariant is `Going`, of proofs/Loop.antt, with a root below 2 ^ 27; its measure is what the root is below 2 ^ 54.
use Rattle.std.proofs.Common.{◌-◌, ◌^◌, ◌<◌}
use Rattle.length.proofs.Loop.{Going}
use Rattle.length.proofs.length_of.Given as goal

abbrev pub invariant-loop-r : goal.invariant-loop-r
invariant-loop-r l = Going l.d l.r.root l.r.rem l.p × (l.r.root < 2 ^ 27)

abbrev pub decreases-loop-r : goal.decreases-loop-r
decreases-loop-r l = 2 ^ 54 - l.r.root
