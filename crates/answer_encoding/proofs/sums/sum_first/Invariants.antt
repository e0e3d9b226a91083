use Rattle.checks.proofs.Adding.{Added}
use Rattle.answer_sources.specs.Laying.{elements}
use Rattle.answer_encoding.proofs.sums.sum_first.Given as goal

abbrev pub invariant-loop-i : goal.invariant-loop-i
invariant-loop-i l = Added (elements l.xs) l.n l.i l.t
