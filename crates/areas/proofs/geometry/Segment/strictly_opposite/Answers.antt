use mathlib.Core.Path.{ap₂}
use mathlib.Core.Bool.{◌&&◌, ◌||◌}
use Rattle.areas.specs.Segments.{opposite}
use Rattle.areas.proofs.geometry.Segment.strictly_opposite.Goals as goal

pub returns : goal.returns
unfolding opposite
returns c =
    ap₂ ◌||◌ (ap₂ ◌&&◌ c.below.ensures c.above.ensures)
    (ap₂ ◌&&◌ c.above-2.ensures c.below-2.ensures)
