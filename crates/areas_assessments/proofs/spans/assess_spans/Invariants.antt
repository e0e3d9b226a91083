use Prim.Native.Nat.{◌*◌, ◌-◌, ◌≤◌}
use lib.ListN.{length}
use Rattle.grid.specs.Cells.{map_of}
use Rattle.areas.specs.Words.{labels_in}
use Rattle.grid.specs.Directions.{directions_of}
use Rattle.areas_assessments.specs.Recording.{SpansOnMap, Arrays}
use Rattle.areas_assessments.proofs.Recording.{Recording}
use Rattle.areas_assessments.proofs.spans.assess_spans.Given as goal

-- what is asked, which no turn changes, and what the first i spans have left
abbrev pub invariant-loop-i : goal.invariant-loop-i
invariant-loop-i l =
    SpansOnMap l.width l.height l.cells l.labels l.ends l.count
    × Arrays (length l.initial.lefts) l.initial.removed l.initial.separated l.initial.owners l.initial.lefts l.initial.rights × (l.i ≤ l.count)
    × Recording (labels_in l.labels (l.width * l.height)) (directions_of l.directions) (map_of l.width l.height l.cells) l.ends
    (length l.initial.lefts) l.removed l.separated l.owners l.lefts l.rights l.i l.end
