use Rattle.answer_encoding.proofs.Loops.{Grouping}
use Rattle.answer_encoding.proofs.sections.write_sources.Given as goal

abbrev pub invariant-loop-k : goal.invariant-loop-k
invariant-loop-k l =
    Grouping l.job l.from l.owns l.seens l.owned l.seen l.o.starts.now l.o.counts.now l.o.keys.now l.initial.s l.at l.k l.count l.s l.to l.a l.q
