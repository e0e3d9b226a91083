use Rattle.answer_gathering.specs.Runs.{FirstsBy}
use Rattle.answer_gathering.proofs.own.add_owns.Given as goal

abbrev pub invariant-loop-j : goal.invariant-loop-j
invariant-loop-j l = FirstsBy l.job l.at l.from l.base l.order l.plan l.starts l.heads l.first l.i l.j l.count l.initial.owned l.links l.owned
