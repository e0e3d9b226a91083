use Rattle.areas.specs.Strip.{tall}
use Rattle.areas.proofs.candidates.is_tall.Goals as goal

pub returns : goal.returns
unfolding tall
returns c = simp (c.abs_diff.ensures, c.abs_diff-2.ensures)
