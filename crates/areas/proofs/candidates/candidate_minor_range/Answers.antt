use Rattle.areas.specs.Strip.{minor_range}
use Rattle.areas.proofs.candidates.candidate_minor_range.Goals as goal

pub returns : goal.returns
unfolding minor_range
returns c = simp (c.centred.ensures, c.saturating_sub.ensures)
