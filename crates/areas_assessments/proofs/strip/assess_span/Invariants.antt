use Prim.Native.Nat.{◌+◌, ◌*◌, ◌-◌, ◌≤◌, max}
use Rattle.grid.specs.Cells.{map_of}
use Rattle.grid.specs.Directions.{directions_of}
use Rattle.areas_assessments.specs.Visits.{cut_beside}
use Rattle.areas_assessments.proofs.Advancing.{Going}
use Rattle.areas.specs.Words.{labels_in}
use Rattle.areas_assessments.proofs.strip.assess_span.Given as goal

abbrev pub invariant-loop-c : goal.invariant-loop-c
invariant-loop-c l =
    (l.c ≤ max l.initial.c l.c-end)
    × Going (labels_in l.fn.labels (l.fn.width * l.fn.height)) (cut_beside (directions_of l.fn.directions) (map_of l.fn.width l.fn.height l.fn.cells) l.fn.span)
    l.initial.c l.start l.initial.lefts
    l.initial.rights l.initial.done l.lefts l.rights l.done l.c (4096 * (l.c - l.initial.c))
