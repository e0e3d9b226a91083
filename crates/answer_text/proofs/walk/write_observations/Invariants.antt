use Rattle.answer_text.proofs.Steps.{ObservationsLeft}
use Rattle.answer_text.proofs.walk.write_observations.Given as goal

abbrev pub invariant-loop-i : goal.invariant-loop-i
invariant-loop-i l = ObservationsLeft l.answer l.n l.initial.d l.initial.out l.out l.i l.d
