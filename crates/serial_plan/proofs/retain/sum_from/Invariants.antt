use Rattle.serial_sums.proofs.SumSteps.{SummedLengths}
use Rattle.serial_plan.proofs.SumLaws.{distance_at}
use Rattle.serial_plan.proofs.retain.sum_from.Given as goal

abbrev pub invariant-loop-j : goal.invariant-loop-j
invariant-loop-j l = SummedLengths (distance_at l.own l.i l.ranks) l.ranks.count l.j l.total
