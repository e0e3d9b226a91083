use Rattle.grid.specs.Cells.{buildable}
use Rattle.grid.proofs.cells.is_buildable.Goals as goal

pub returns : goal.returns
unfolding buildable
returns c = λ g i e. rw e
