use Rattle.answer_encoding.proofs.Loops.{Cited}
use Rattle.answer_encoding.proofs.sums.sum_runs.Given as goal

abbrev pub invariant-loop-i : goal.invariant-loop-i
invariant-loop-i l = Cited l.seen l.o.starts.now l.o.counts.now l.o.keys.now l.n l.i l.t
