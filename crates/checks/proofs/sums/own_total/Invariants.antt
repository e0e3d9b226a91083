use Prim.Native.Nat.{◌+◌, ◌*◌}
use Rattle.format.specs.Records.{boundary_at}
use Rattle.checks.proofs.Adding.{Added}
use Rattle.checks.proofs.sums.own_total.Given as goal

abbrev pub invariant-loop-i : goal.invariant-loop-i
invariant-loop-i l = Added (λ k. (boundary_at l.job (l.at + k * 40)).sources) l.n l.i l.total
