use Rattle.checks.proofs.Firsts.{Clean}
use Rattle.checks.specs.Single.{base_check}
use Rattle.checks.proofs.bases.check_bases.Given as goal

abbrev pub invariant-loop-i : goal.invariant-loop-i
invariant-loop-i l = Clean (base_check l.job l.width l.height l.at) l.n l.i
