use Rattle.areas.specs.Segments.{meets}
use Rattle.areas.proofs.geometry.segments_intersect.Goals as goal

pub returns : goal.returns
unfolding meets
returns c = cc
