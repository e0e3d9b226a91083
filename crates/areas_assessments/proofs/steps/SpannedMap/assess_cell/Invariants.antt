use Prim.Native.Nat.{◌+◌, ◌*◌, ◌-◌, ◌≤◌}
use Rattle.grid.specs.Cells.{map_of}
use Rattle.areas.specs.Words.{labels_in}
use Rattle.grid.specs.Directions.{directions_of}
use Rattle.areas_assessments.specs.Visits.{cut_in}
use Rattle.areas_assessments.proofs.Advancing.{Going}
use Rattle.areas_assessments.proofs.steps.SpannedMap.assess_cell.Given as goal

abbrev pub invariant-loop-d : goal.invariant-loop-d
invariant-loop-d l =
    (l.d ≤ 9) × Going (labels_in l.self.labels.now (l.self.width * l.self.height))
    (cut_in (directions_of l.self.directions) (map_of l.self.width l.self.height l.self.cells.now) l.self.span (l.position.y * l.self.width + l.position.x)) 5
    l.start l.initial.lefts l.initial.rights l.initial.done l.lefts l.rights l.done l.d (l.d - 5)
