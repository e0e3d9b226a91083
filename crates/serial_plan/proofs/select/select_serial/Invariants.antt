use mathlib.Core.Bool.{cond}
use Prim.Native.Nat.{◌≤◌}
use Rattle.lists.specs.Rows.{at}
use Rattle.serial_plan.specs.Arrays.{FirstAre}
use Rattle.serial_plan.specs.Shape.{both_on}
use Rattle.serial_plan.proofs.select.select_serial.Given as goal

abbrev pub invariant-loop-k : goal.invariant-loop-k
invariant-loop-k l = (l.k ≤ l.t.links) × FirstAre (λ j. cond (both_on l.marks (at l.t.firsts.now j) (at l.t.seconds.now j)) 1 0) l.k l.chosen
