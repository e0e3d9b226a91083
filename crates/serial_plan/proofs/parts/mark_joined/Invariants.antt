use mathlib.Core.Bool.{cond}
use Prim.Native.Nat.{◌-◌, ◌≤◌}
use Rattle.serial_plan.specs.Arrays.{joined_from, FirstAre}
use Rattle.serial_plan.proofs.parts.mark_joined.Given as goal

abbrev pub invariant-loop-k : goal.invariant-loop-k
invariant-loop-k l =
    (l.k ≤ l.t.links) × FirstAre (λ i. cond (joined_from l.chosen l.t.firsts.now l.t.seconds.now l.k (l.t.links - l.k) i) 1 0) 256 l.joined
