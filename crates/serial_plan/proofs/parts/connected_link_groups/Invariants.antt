use Prim.Native.Nat.{◌-◌, ◌≤◌}
use Rattle.serial_plan.specs.Arrays.{part_from, FirstAre}
use Rattle.serial_plan.proofs.parts.connected_link_groups.Given as goal

abbrev pub invariant-loop-k : goal.invariant-loop-k
invariant-loop-k l = (l.k ≤ l.t.links) × FirstAre (part_from l.chosen l.t.firsts.now l.t.seconds.now l.k (l.t.links - l.k)) 256 l.parts
