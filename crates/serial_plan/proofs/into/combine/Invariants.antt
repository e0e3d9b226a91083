use Prim.Native.Nat.{◌≤◌}
use Rattle.lists.specs.Rows.{at}
use Rattle.serial_plan.specs.Arrays.{FirstAre}
use Rattle.serial_plan.specs.Into.{goes_to}
use Rattle.serial_plan.proofs.into.combine.Given as goal

abbrev pub invariant-loop-i : goal.invariant-loop-i
invariant-loop-i l = (l.i ≤ l.n) × FirstAre (λ j. goes_to (at l.serial j) (at l.flat j) j) l.i l.plan
