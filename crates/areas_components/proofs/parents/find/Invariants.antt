use Rattle.areas_components.proofs.FindLaws.{Finding}
use Rattle.areas_components.proofs.parents.find.Given as goal

abbrev pub invariant-loop-p : goal.invariant-loop-p
invariant-loop-p l = Finding l.i l.at l.p l.initial.work l.work

abbrev pub decreases-loop-p : goal.decreases-loop-p
decreases-loop-p l = l.at
