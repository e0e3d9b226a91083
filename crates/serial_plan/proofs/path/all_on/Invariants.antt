use Prim.Native.Nat.{◌≤◌}
use Rattle.serial_plan.specs.Arrays.{is_on}
use Rattle.serial_plan.specs.Few.{few_at}
use Rattle.serial_plan.proofs.ShapeLaws.{Each}
use Rattle.serial_plan.proofs.path.all_on.Given as goal

abbrev pub invariant-loop-j : goal.invariant-loop-j
invariant-loop-j l = (l.j ≤ l.links.count) × Each (is_on l.marks) (few_at l.links) l.links.count l.j l.all
