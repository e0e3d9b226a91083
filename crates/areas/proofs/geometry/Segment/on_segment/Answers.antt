use Rattle.areas.specs.Segments.{on_segment}
use Rattle.areas.proofs.geometry.Segment.on_segment.Goals as goal

pub returns : goal.returns
unfolding on_segment
returns c = cc
