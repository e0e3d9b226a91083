use mathlib.Core.Bool.{◌&&◌}
use Prim.Native.Nat.{ℕ, ◌≤◌}
use lib.Dec.{leb}
use Rattle.serial_plan.specs.Shape.{degree_in}
use Rattle.serial_plan.specs.Few.{few_at, few_list}
use Rattle.serial_plan.proofs.ShapeLaws.{Each}
use Rattle.serial_plan.proofs.path.regular.Given as goal

abbrev pub invariant-loop-j : goal.invariant-loop-j
invariant-loop-j l =
    (l.j ≤ l.group.ranks.count) × Each (λ (i : ℕ). leb 1 (degree_in l.t.firsts.now l.t.seconds.now (few_list l.group.links) i) && leb (degree_in l.t.firsts.now
    l.t.seconds.now (few_list l.group.links) i) 2)
    (few_at l.group.ranks)
    l.group.ranks.count l.j l.all
