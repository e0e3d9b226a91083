use mathlib.Core.Path.{refl}
use native.Mathlib.Omega.{arith}
use Rattle.grid.specs.Directions.{directions_of}
use Rattle.analysis.proofs.Headed.{headed-laid, headed-cells}
use Rattle.analysis.proofs.Mapped.{map-inside}
use Rattle.analysis.proofs.OwnEnds.{own-partitionable}
use Rattle.chokes.proofs.Marked.{own-analysed}
use Rattle.chokes.proofs.mark.analyse_boundaries.Goals as goal

pub overflow_mul-n : goal.overflow_mul-n
overflow_mul-n c = omega (arith, headed-cells c.requires.0.headed)

pub own_ends-requires : goal.own_ends-requires
own_ends-requires c =
    (c.requires.0.headed, refl)

pub slice_bounds-find_marks-end : goal.slice_bounds-find_marks-end
slice_bounds-find_marks-end c =
    let headed = c.requires.0.headed in
    omega (arith, map-inside headed.header (headed-laid headed) _ refl)

pub find_marks-requires : goal.find_marks-requires
find_marks-requires c =
    own-partitionable c.requires.0 refl refl c.own_ends.ensures
    c.requires.1

pub returns : goal.returns
returns c =
    own-analysed c.requires.0 refl refl c.own_ends.ensures
    (directions_of c.args.directions) c.find_marks.ensures
