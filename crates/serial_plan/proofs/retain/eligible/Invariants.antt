use Prim.Native.Nat.{◌≤◌}
use Rattle.serial_links.specs.HeldLimits.{limits_of}
use Rattle.serial_plan.specs.Shape.{fine_in}
use Rattle.serial_plan.specs.Few.{few_at}
use Rattle.serial_plan.proofs.FewLaws.{Picked}
use Rattle.serial_plan.proofs.retain.eligible.Given as goal

abbrev pub invariant-loop-j : goal.invariant-loop-j
invariant-loop-j l = (l.j ≤ l.ranks.count) × Picked (fine_in (limits_of l.limits) l.bits l.least) (few_at l.ranks) l.ranks.count l.j l.found
