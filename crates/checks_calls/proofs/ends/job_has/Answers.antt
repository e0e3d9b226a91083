use mathlib.Core.Path.{sym, ◌∙◌}
use Rattle.checks_calls.proofs.Passing.{ok-none, reduce-passed}
use Rattle.checks_calls.proofs.ends.job_has.Goals as goal

pub read_header-requires : goal.read_header-requires
read_header-requires c = (reduce-passed _ (sym c.check_reduce.ensures ∙ ok-none _ (sym c.is_ok.ensures.value ∙ c.if-is_ok.true))).0
