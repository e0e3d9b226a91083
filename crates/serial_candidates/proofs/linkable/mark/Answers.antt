use mathlib.Core.Path.{◌∙◌}
use Rattle.serial_candidates.proofs.StepLaws.{as_number, can-link}
use Rattle.serial_candidates.proofs.linkable.mark.Goals as goal

pub returns : goal.returns
returns c =
    let a = c.args in
    let k = can-link a.own.now a.ramps.now a.removed.now a.separated.now a.counts.now a.rank c.span_at-s.ensures c.coincides-distinct.ensures
    c.has_full_pair-full.ensures in
    c.from.ensures ∙ as_number _ ∙ rw k
