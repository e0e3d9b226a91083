use Rattle.checks.proofs.Firsts.{Clean}
use Rattle.checks.specs.Single.{ramp_check}
use Rattle.checks.proofs.boundaries.check_ramps.Given as goal

abbrev pub invariant-loop-i : goal.invariant-loop-i
invariant-loop-i l = Clean (ramp_check l.job l.at) l.n l.i
