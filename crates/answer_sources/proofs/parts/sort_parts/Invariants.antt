use Rattle.answer_sources.specs.Squeezed.{Squeezed}
use Rattle.answer_sources.proofs.parts.sort_parts.Given as goal

abbrev pub invariant-loop-q : goal.invariant-loop-q
invariant-loop-q l = Squeezed l.starts l.initial.keys l.initial.counts l.keys l.counts l.q
