use Rattle.answer_sources.specs.Laying.{seen_count}
use Rattle.answer_gathering.specs.Runs.{SeensBy}
use Rattle.answer_gathering.proofs.seen.gather_seens.Given as goal

abbrev pub invariant-loop-i : goal.invariant-loop-i
invariant-loop-i l =
    SeensBy l.base l.order l.plan l.firsts l.o.first.now l.o.second.now l.o.third.now l.o.starts.now l.o.counts.now l.o.keys.now
    (seen_count l.job l.at) l.n l.i l.k l.a l.seens l.seen
