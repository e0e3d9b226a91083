use Rattle.areas.specs.Strip.{axis_range}
use Rattle.areas.proofs.candidates.candidate_axis_range.Goals as goal

pub returns : goal.returns
unfolding axis_range
returns c = simp (c.centred.ensures, c.saturating_sub.ensures)
