use Rattle.grid.proofs.Directions.{has-bit}
use Rattle.grid.proofs.neighbors.has_direction.Goals as goal

pub returns : goal.returns
returns c = has-bit c.args.directions c.args.d c.requires
