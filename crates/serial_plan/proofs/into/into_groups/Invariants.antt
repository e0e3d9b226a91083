use Prim.Native.Nat.{◌≤◌}
use Rattle.serial_links.specs.HeldLimits.{limits_of}
use Rattle.serial_plan.specs.Arrays.{FirstAre}
use Rattle.serial_plan.specs.Tables.{into_by}
use Rattle.serial_plan.proofs.into.into_groups.Given as goal

abbrev pub invariant-loop-i : goal.invariant-loop-i
invariant-loop-i g l =
    (l.i ≤ l.t.n) × FirstAre (into_by (g.R.Rules.accepted l.rules (limits_of l.limits) l.t) (limits_of l.limits) l.t l.g) l.i l.into
