use Prim.Native.Nat.{◌≤◌}
use Rattle.serial_links.specs.HeldLimits.{limits_of}
use Rattle.serial_plan.specs.Shape.{alike_in}
use Rattle.serial_plan.specs.Few.{few_at}
use Rattle.serial_plan.proofs.ShapeLaws.{Each}
use Rattle.serial_plan.proofs.alike.alike_to_all.Given as goal

abbrev pub invariant-loop-j : goal.invariant-loop-j
invariant-loop-j l = (l.j ≤ l.ranks.count) × Each (alike_in (limits_of l.limits) l.own l.i) (few_at l.ranks) l.ranks.count l.j l.all
