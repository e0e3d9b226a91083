use Rattle.answer_encoding.proofs.Loops.{Running}
use Rattle.answer_encoding.proofs.runs.write_runs.Given as goal

abbrev pub invariant-loop-i : goal.invariant-loop-i
invariant-loop-i l = Running l.seen l.o.starts.now l.o.counts.now l.o.keys.now l.from l.initial.s l.at l.i l.n l.s l.to
