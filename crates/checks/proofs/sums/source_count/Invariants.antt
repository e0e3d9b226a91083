use Prim.Native.Nat.{◌+◌, ◌*◌}
use Rattle.format.specs.Records.{observation_at}
use Rattle.checks.proofs.Adding.{Added}
use Rattle.checks.proofs.sums.source_count.Given as goal

abbrev pub invariant-loop-i : goal.invariant-loop-i
invariant-loop-i l = Added (λ k. (observation_at l.job (l.at + k * 28)).sources) l.n l.i l.total
