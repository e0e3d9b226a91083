use mathlib.Core.Path.{refl, ◌∙◌}
use Rattle.analysis.proofs.Calling.{numbered, passed_on, counted_on, reduce-job}
use Rattle.chokes.proofs.Finishing.{admitted-block, reduce-bad, answerable, reduce-finished, reduce-as, few-spans, leads-eight, left-eight}
use Rattle.chokes.proofs.reduce.reduce.Goals as goal

-- 32
pub returns-in_err-check_thresholds : goal.returns-in_err-check_thresholds
returns-in_err-check_thresholds c =
    let r = c.from_residual.ensures.1 in
    rw (passed_on c.from_residual.result _ r, counted_on c.from_residual.result _ r)
    (reduce-bad _ c.in_err-check_thresholds.ensures refl refl refl refl _ _ _)

pub read_limits-limits-requires : goal.read_limits-limits-requires
read_limits-limits-requires c = admitted-block _ c.in_ok-check_thresholds.ensures refl refl

pub merges_by_own_ends-requires : goal.merges_by_own_ends-requires
merges_by_own_ends-requires c =
    (few-spans _ c.read_limits-limits.ensures (admitted-block _ c.in_ok-check_thresholds.ensures refl refl), leads-eight)

pub returns-in_err-merges_by_own_ends : goal.returns-in_err-merges_by_own_ends
returns-in_err-merges_by_own_ends c =
    let r = c.from_residual-in_err-merges_by_own_ends.ensures.1 in
    rw (passed_on c.from_residual-in_err-merges_by_own_ends.result _ r, counted_on c.from_residual-in_err-merges_by_own_ends.result _ r)
    ((left-eight c.read_limits-limits.ensures c.in_err-merges_by_own_ends.ensures).refused (numbered _) _
    ∙ reduce-as _ _ _ _ (admitted-block _ c.in_ok-check_thresholds.ensures refl refl))

pub finish-requires : goal.finish-requires
finish-requires c =
    let y = (left-eight c.read_limits-limits.ensures c.in_ok-merges_by_own_ends.ensures).made refl in
    answerable _ _ (reduce-job _ y.passed) y.ranks

pub returns : goal.returns
returns c =
    reduce-finished _ _ _ c.finish.ensures _ (admitted-block _ c.in_ok-check_thresholds.ensures refl refl)
    ((left-eight c.read_limits-limits.ensures c.in_ok-merges_by_own_ends.ensures).made refl)
