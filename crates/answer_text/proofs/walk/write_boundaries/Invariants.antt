use Rattle.answer_text.proofs.Steps.{BoundariesLeft}
use Rattle.answer_text.proofs.walk.write_boundaries.Given as goal

abbrev pub invariant-loop-i : goal.invariant-loop-i
invariant-loop-i l = BoundariesLeft l.answer l.place l.n l.initial.d l.initial.out l.out l.i l.d
