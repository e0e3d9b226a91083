use Rattle.answer_sources.specs.Laying.{seen_count}
use Rattle.answer_sources.proofs.Stands.{StandingTo}
use Rattle.answer_sources.proofs.standing.mark_standing.Given as goal

abbrev pub invariant-loop-j : goal.invariant-loop-j
invariant-loop-j l = StandingTo l.order l.plan (seen_count l.job l.at) l.n l.j l.stands
