use Rattle.grid.proofs.Reach.{grid_of}
use native.Mathlib.Omega.{arith}
use mathlib.Core.Path.{refl}
use mathlib.Core.List.{[]}
use Rattle.areas_steps.proofs.opening.byte_of.Goals as goal

pub overflow_add-result : goal.overflow_add-result
overflow_add-result c = omega (arith, c.index.ensures (grid_of c.args.width 0 []) refl)

pub returns : goal.returns
returns c = omega (arith, c.index.ensures (grid_of c.args.width 0 []) refl)
