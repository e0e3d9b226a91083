use Rattle.answer_gathering.specs.Runs.{OwnsBy}
use Rattle.answer_gathering.proofs.own.gather_owns.Given as goal

abbrev pub invariant-loop-i : goal.invariant-loop-i
invariant-loop-i l = OwnsBy l.job l.at l.from l.base l.order l.plan l.starts l.heads l.n l.i l.k l.end l.kept l.owns l.links l.owned
