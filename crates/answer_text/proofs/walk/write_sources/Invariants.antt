use Rattle.answer_text.proofs.Steps.{SourcesLeft}
use Rattle.answer_text.proofs.walk.write_sources.Given as goal

abbrev pub invariant-loop-i : goal.invariant-loop-i
invariant-loop-i l = SourcesLeft l.answer l.from l.n l.initial.out l.at l.out l.i l.end
