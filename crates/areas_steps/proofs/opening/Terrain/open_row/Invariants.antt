use mathlib.Core.List.{List, []}
use Prim.Native.Nat.{ℕ, ◌+◌, ◌*◌}
use Rattle.areas.specs.Open.{open_byte}
use Rattle.grid.specs.Cells.{map_of}
use Rattle.grid.specs.Directions.{directions_of}
use Rattle.areas_steps.specs.Marks.{WorkHolds}
use Rattle.areas_steps.proofs.opening.Terrain.open_row.Given as goal

abbrev pub invariant-loop-x : goal.invariant-loop-x
invariant-loop-x l =
    let t = l.self in
    let f = open_byte (directions_of t.directions) (map_of t.width t.height t.cells.now) [] in
    (before : List ℕ) → WorkHolds l.base (l.y * t.width) f before l.initial.work → WorkHolds l.base (l.y * t.width + l.x) f before l.work
