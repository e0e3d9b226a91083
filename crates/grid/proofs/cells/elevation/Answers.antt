use Rattle.grid.specs.Cells.{elevation}
use Rattle.grid.proofs.cells.elevation.Goals as goal

pub returns : goal.returns
unfolding elevation
returns c = λ g i e. rw e
