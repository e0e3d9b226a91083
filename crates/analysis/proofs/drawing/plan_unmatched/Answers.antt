use native.Mathlib.Omega.{arith}
use mathlib.Core.Path.{refl}
use Rattle.analysis.proofs.Headed.{headed-laid, headed-cells}
use Rattle.analysis.proofs.Mapped.{map-inside}
use Rattle.analysis.proofs.Matching.{list-unmatched-records, unmatched-partitionable, unmatched-drawn}
use Rattle.grid.specs.Directions.{directions_of}
use Rattle.analysis.proofs.drawing.plan_unmatched.Goals as goal

pub overflow_mul-cells : goal.overflow_mul-cells
overflow_mul-cells c =
    omega (arith, headed-cells c.requires.0)

pub fill_spans-requires : goal.fill_spans-requires
fill_spans-requires c =
    (list-unmatched-records c.requires.0 _ c.requires.2 _ c.requires.3 c.fill_identity.ensures, refl)

pub slice_bounds-find_areas-end : goal.slice_bounds-find_areas-end
slice_bounds-find_areas-end c =
    let headed = c.requires.0 in
    omega (arith, map-inside headed.header (headed-laid headed) _ refl)

pub find_areas-p-requires : goal.find_areas-p-requires
find_areas-p-requires c =
    unmatched-partitionable c.requires.0 _ c.requires.2 _ c.requires.3 c.fill_identity.ensures
    c.fill_spans.ensures _ refl c.requires.6 c.requires.1

pub returns : goal.returns
returns c =
    λ l. unmatched-drawn c.requires.0 _ c.requires.2 _ c.requires.3 c.fill_identity.ensures
    c.fill_spans.ensures _ refl l (directions_of c.args.directions) c.requires.4
    c.find_areas-p.ensures
