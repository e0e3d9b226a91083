use mathlib.Core.Path.{refl}
use Rattle.grid.specs.Directions.{diagonal}
use Rattle.grid.proofs.neighbors.is_diagonal.Goals as goal

pub returns : goal.returns
unfolding diagonal
returns c = refl
