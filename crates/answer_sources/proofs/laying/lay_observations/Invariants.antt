use Rattle.answer_sources.specs.Laying.{Lays, cited_count}
use Rattle.answer_sources.proofs.laying.lay_observations.Given as goal

abbrev pub invariant-loop-i : goal.invariant-loop-i
invariant-loop-i l = Lays (cited_count l.job l.at) l.p l.i l.run l.initial.starts l.initial.counts l.starts l.counts l.r
