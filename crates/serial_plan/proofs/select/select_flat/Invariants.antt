use mathlib.Core.Bool.{cond}
use Prim.Native.Nat.{◌≤◌}
use Rattle.lists.specs.Rows.{at}
use Rattle.serial_links.specs.HeldLimits.{limits_of}
use Rattle.serial_plan.specs.Arrays.{FirstAre}
use Rattle.serial_plan.specs.Shape.{flat_link_in}
use Rattle.serial_plan.proofs.select.select_flat.Given as goal

abbrev pub invariant-loop-k : goal.invariant-loop-k
invariant-loop-k l = (l.k ≤ l.t.links)
    × FirstAre (λ j. cond (flat_link_in (limits_of l.limits) l.t.own.now l.into (at l.flat j) (at l.t.firsts.now j) (at l.t.seconds.now j)) 1 0) l.k l.chosen
