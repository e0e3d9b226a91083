use Prim.Native.Nat.{◌≤◌}
use Rattle.serial_plan.specs.Arrays.{in_part}
use Rattle.serial_plan.proofs.FewLaws.{Picked}
use Rattle.serial_plan.proofs.gather.ranks_of.Given as goal

abbrev pub invariant-loop-i : goal.invariant-loop-i
invariant-loop-i l = (l.i ≤ l.n) × Picked (in_part l.g.joined.now l.g.parts.now l.c) (λ j. j) l.n l.i l.found
