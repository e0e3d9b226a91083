use Rattle.checks_calls.specs.Refusals.{mark_checks}
use Rattle.checks_calls.proofs.calls.check_mark.Goals as goal

pub returns : goal.returns
unfolding mark_checks
returns c = c.check_boundaries.ensures
