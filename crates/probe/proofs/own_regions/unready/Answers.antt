use mathlib.Core.Path.{sym, ◌∙◌}
use native.Mathlib.Omega.{arith}
use Rattle.analysis.proofs.Calling.{reduce-job}
use Rattle.probe.proofs.own_regions.unready.Goals as goal

pub first_answer-requires : goal.first_answer-requires
first_answer-requires c = (λ e. reduce-job _ (sym c.check_reduce.ensures ∙ e), omega arith)
