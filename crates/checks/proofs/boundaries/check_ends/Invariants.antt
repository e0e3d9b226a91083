use Rattle.checks.proofs.Firsts.{Clean}
use Rattle.checks.specs.Single.{ends_check}
use Rattle.checks.proofs.boundaries.check_ends.Given as goal

abbrev pub invariant-loop-i : goal.invariant-loop-i
invariant-loop-i l = Clean (ends_check l.distinct l.job l.width l.height l.at) l.n l.i
