use Prim.Native.Nat.{◌+◌, ◌*◌, ◌-◌, ◌≤◌, max}
use Rattle.grid.specs.Cells.{map_of}
use Rattle.grid.specs.Directions.{directions_of}
use Rattle.areas.specs.Strip.{cell_of}
use Rattle.areas_assessments.specs.Visits.{cut_from}
use Rattle.areas_assessments.proofs.Advancing.{Going}
use Rattle.areas.specs.Words.{labels_in}
use Rattle.areas_assessments.proofs.steps.SpannedMap.assess_beside.Given as goal

abbrev pub invariant-loop-cm : goal.invariant-loop-cm
invariant-loop-cm l =
    (l.cm ≤ max l.initial.cm l.cm-end) × Going (labels_in l.self.labels.now (l.self.width * l.self.height))
    (λ k. cut_from (directions_of l.self.directions) (map_of l.self.width l.self.height l.self.cells.now) l.self.span
    (cell_of (map_of l.self.width l.self.height l.self.cells.now) l.self.span l.c k)) l.initial.cm
    l.start l.initial.lefts l.initial.rights l.initial.done
    l.lefts l.rights l.done l.cm (4 * (l.cm - l.initial.cm))
