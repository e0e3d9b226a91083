use Prim.Native.Nat.{◌≤◌}
use Rattle.serial_plan.specs.Arrays.{link_in_part}
use Rattle.serial_plan.proofs.FewLaws.{Picked}
use Rattle.serial_plan.proofs.gather.links_of.Given as goal

abbrev pub invariant-loop-k : goal.invariant-loop-k
invariant-loop-k l = (l.k ≤ l.t.links) × Picked (link_in_part l.g.chosen.now l.t.firsts.now l.g.parts.now l.c) (λ j. j) l.t.links l.k l.found
