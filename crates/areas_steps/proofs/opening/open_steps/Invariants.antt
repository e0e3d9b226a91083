use mathlib.Core.List.{[]}
use Prim.Native.Nat.{◌*◌}
use Rattle.areas.specs.Open.{open_byte}
use Rattle.grid.specs.Cells.{map_of}
use Rattle.grid.specs.Directions.{directions_of}
use Rattle.areas_steps.specs.Marks.{WorkHolds}
use Rattle.areas_steps.proofs.opening.open_steps.Given as goal

abbrev pub invariant-loop-y : goal.invariant-loop-y
invariant-loop-y l =
    WorkHolds l.base (l.y * l.width) (open_byte (directions_of l.directions) (map_of l.width l.height l.cells) []) l.initial.work l.work
