use Rattle.grid.specs.Cells.{walkable}
use Rattle.grid.proofs.cells.is_walkable.Goals as goal

pub returns : goal.returns
unfolding walkable
returns c = λ g i e. rw e
