use mathlib.Core.Path.{refl}
use native.Mathlib.Omega.{arith}
use Rattle.analysis.proofs.Headed.{headed-laid, headed-cells}
use Rattle.analysis.proofs.Mapped.{map-inside}
use Rattle.analysis.proofs.Matching.{matched-partitionable, matched-tabled}
use Rattle.analysis.proofs.drawing.part_by_rank.Goals as goal

pub overflow_mul-n : goal.overflow_mul-n
overflow_mul-n c =
    omega (arith, headed-cells c.requires.0)

pub slice_bounds-analyse-end : goal.slice_bounds-analyse-end
slice_bounds-analyse-end c =
    let headed = c.requires.0 in
    omega (arith, map-inside headed.header (headed-laid headed) _ refl)

pub analyse-p-requires : goal.analyse-p-requires
analyse-p-requires c =
    let p = c.requires in
    (matched-partitionable p.0 _ refl _ refl p.4 p.2 p.1, p.3)

pub returns : goal.returns
returns c =
    let p = c.requires in
    matched-tabled p.0 _ refl _ refl c.analyse-p.ensures.partitioned c.analyse-p.ensures.marks p.3.few
