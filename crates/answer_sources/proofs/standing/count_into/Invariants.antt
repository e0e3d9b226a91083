use Rattle.answer_sources.specs.Standing.{Sizes}
use Rattle.answer_sources.proofs.standing.count_into.Given as goal

abbrev pub invariant-loop-j : goal.invariant-loop-j
invariant-loop-j l = Sizes l.plan l.j l.sizes
