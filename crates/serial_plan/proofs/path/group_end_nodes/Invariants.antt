use Prim.Native.Nat.{ℕ, ◌≤◌}
use lib.Dec.{eqb}
use Rattle.serial_plan.specs.Shape.{degree_in}
use Rattle.serial_plan.specs.Few.{few_at, few_list}
use Rattle.serial_plan.proofs.FewLaws.{Picked}
use Rattle.serial_plan.proofs.path.group_end_nodes.Given as goal

abbrev pub invariant-loop-j : goal.invariant-loop-j
invariant-loop-j l =
    (l.j ≤ l.group.ranks.count) × Picked (λ (i : ℕ). eqb (degree_in l.t.firsts.now l.t.seconds.now (few_list l.group.links) i) 1) (few_at
    l.group.ranks) l.group.ranks.count
    l.j l.found
