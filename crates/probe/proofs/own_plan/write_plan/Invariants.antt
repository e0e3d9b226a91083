use lib.ListN.{get_or}
use Rattle.probe.specs.Planning.{Words}
use Rattle.probe.proofs.own_plan.write_plan.Given as goal

abbrev pub invariant-loop-i : goal.invariant-loop-i
invariant-loop-i l = Words l.order (λ k. get_or l.order (get_or l.plan k 0) 0) l.n l.i l.initial.out l.out
