use native.Mathlib.Omega.{arith}
use mathlib.Core.Path.{refl}
use Rattle.analysis.proofs.Headed.{headed-laid, headed-cells}
use Rattle.analysis.proofs.Mapped.{map-inside}
use Rattle.analysis.proofs.Merges.{ready, planned-as}
use Rattle.analysis.proofs.drawing.plan_listing.Goals as goal

pub overflow_mul-n : goal.overflow_mul-n
overflow_mul-n c =
    omega (arith, headed-cells c.requires.0.headed)

pub fill_tables-requires : goal.fill_tables-requires
fill_tables-requires c =
    (c.requires.0, refl, refl, refl)

pub slice_bounds-plan_merges-end : goal.slice_bounds-plan_merges-end
slice_bounds-plan_merges-end c =
    omega (arith, map-inside c.requires.0.headed.header (headed-laid c.requires.0.headed) _ refl)

pub plan_merges-requires : goal.plan_merges-requires
plan_merges-requires c =
    let tables = c.fill_tables.ensures in (
      c.requires.4,
      ready c.requires.0 tables.ends tables.widths tables.ramp-ends c.requires.1.are _ _ _ refl
          refl refl _ refl c.requires.2,
      c.requires.3,
    )

pub returns : goal.returns
returns c =
    let tables = c.fill_tables.ensures in
    record {
      work = c.plan_merges.ensures.work;
      plan = λ dirs ss t. planned-as c.requires.0 tables.ends tables.widths tables.ramp-ends t _ _ _ refl refl refl _ refl c.plan_merges.ensures.plan;
      whole = c.plan_merges.ensures.plan.whole;
    }
