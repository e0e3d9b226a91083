use Rattle.checks_calls.specs.Refusals.{reduce_checks}
use Rattle.checks_calls.proofs.calls.check_reduce.Goals as goal

pub returns : goal.returns
unfolding reduce_checks
returns c = c.check_boundaries.ensures
