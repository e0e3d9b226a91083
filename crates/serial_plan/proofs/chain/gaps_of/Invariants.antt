use mathlib.Core.List.{map}
use Prim.Native.Nat.{◌≤◌}
use Rattle.order.specs.Lists.{up_from}
use Rattle.serial_sums.specs.Parts.{PartsOf}
use Rattle.serial_plan.proofs.SumLaws.{gap_at}
use Rattle.serial_plan.proofs.chain.gaps_of.Given as goal

abbrev pub invariant-loop-j : goal.invariant-loop-j
invariant-loop-j l = (l.j ≤ l.links.count) × PartsOf l.gaps (map (gap_at l.t.firsts.now l.t.seconds.now l.t.own.now l.links) (up_from 0 l.j))
