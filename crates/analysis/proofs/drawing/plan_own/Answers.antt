use mathlib.Core.Path.{refl}
use Rattle.analysis.proofs.Merges.{plan-records}
use Rattle.analysis.proofs.Matching.{own-by, own-fit}
use Rattle.analysis.proofs.drawing.plan_own.Goals as goal

pub fill_spans-requires : goal.fill_spans-requires
fill_spans-requires c =
    (plan-records c.requires.0.job _ _ refl refl, refl)

pub plan_matched-requires : goal.plan_matched-requires
plan_matched-requires c =
    let p = c.requires.0 in (
      p,
      own-fit p.job _ _ refl refl c.fill_spans.ensures c.requires.1,
      record { spans = _; are = own-by p.job _ _ refl refl c.fill_spans.ensures },
      c.requires.2,
      c.requires.3,
      c.requires.4,
    )

pub returns : goal.returns
returns c =
    c.plan_matched.ensures _ (own-by c.requires.0.job _ _ refl refl c.fill_spans.ensures)
