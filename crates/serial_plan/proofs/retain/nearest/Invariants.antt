use Rattle.serial_plan.specs.Shape.{nearer_in}
use Rattle.serial_plan.specs.Fitting.{RankFits}
use Rattle.serial_plan.specs.Few.{few_at, few_list}
use Rattle.order.proofs.SortedFirst.{SortedFirst}
use Rattle.serial_plan.proofs.retain.nearest.Given as goal

abbrev pub invariant-loop-j : goal.invariant-loop-j
invariant-loop-j l = SortedFirst (nearer_in l.own (few_list l.ranks)) (few_at l.among) l.among.count l.j l.best × RankFits l.own l.best
