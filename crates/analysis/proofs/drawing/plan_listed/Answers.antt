use mathlib.Core.Path.{refl}
use Rattle.analysis.proofs.Merges.{plan-ranks}
use Rattle.analysis.proofs.Matching.{list-matched-records, list-by, list-fit}
use Rattle.analysis.proofs.drawing.plan_listed.Goals as goal

pub fill_spans-requires : goal.fill_spans-requires
fill_spans-requires c =
    let p = c.requires.0.job in
    (list-matched-records p.headed _ c.requires.1 (plan-ranks p) _ refl c.requires.2, refl)

pub plan_matched-requires : goal.plan_matched-requires
plan_matched-requires c =
    let p = c.requires.0.job in (
      c.requires.0,
      list-fit p.headed _ c.requires.1 (plan-ranks p) _ refl c.requires.2 c.fill_spans.ensures,
      record { spans = _; are = list-by p.headed _ c.requires.1 (plan-ranks p) _ refl c.requires.2 c.fill_spans.ensures },
      c.requires.3,
      c.requires.4,
      c.requires.5,
    )

pub returns : goal.returns
returns c =
    let p = c.requires.0.job in
    c.plan_matched.ensures _ (list-by p.headed _ c.requires.1 (plan-ranks p) _ refl c.requires.2 c.fill_spans.ensures)
