use mathlib.Core.Path.{refl}
use Rattle.marks_closing.specs.Log.{forest_tables}
use Rattle.marks_closing.proofs.Starts.{open-all, marks-all}
use Rattle.marks_closing.proofs.close_boundaries.Goals as goal

pub close_range-requires : goal.close_range-requires
close_range-requires c =
    let a = c.args in
    open-all (forest_tables a.parents.now a.heights.now a.joined.now a.earlier.now) c.requires.0 c.requires.1 c.requires.2
    c.clear.ensures 256 refl

pub returns : goal.returns
returns c =
    marks-all refl c.close_range.ensures.marked
