use Rattle.answer_firsts.specs.Links.{Covers}
use Rattle.answer_firsts.proofs.finding.add_places.Given as goal

abbrev pub invariant-loop-i : goal.invariant-loop-i
invariant-loop-i l = Covers l.heads l.job l.base l.first l.count l.from l.i l.initial.places l.links l.places l.found
