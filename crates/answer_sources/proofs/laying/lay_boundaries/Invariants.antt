use Rattle.answer_sources.specs.Laying.{Layout, own_count, seen_count, cited_count}
use Rattle.answer_sources.proofs.laying.lay_boundaries.Given as goal

abbrev pub invariant-loop-b : goal.invariant-loop-b
invariant-loop-b l =
    Layout l.stands (own_count l.job l.at) (seen_count l.job l.at) (cited_count l.job l.ats) l.base l.n l.firsts l.starts l.counts l.b l.p l.run
