use Rattle.grid.specs.Cells.{ramp_cell}
use Rattle.grid.proofs.cells.is_ramp.Goals as goal

pub returns : goal.returns
unfolding ramp_cell
returns c = λ g i e. rw e
