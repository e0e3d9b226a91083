use mathlib.Core.List.{List, []}
use Prim.Native.Nat.{ℕ}
use lib.ListN.{length}
use Rattle.areas.specs.Open.{open_byte}
use Rattle.areas.specs.Spans.{spans_in}
use Rattle.position.specs.declared.Span.{Span}
use Rattle.grid.specs.Cells.{map_of}
use Rattle.grid.specs.Directions.{directions_of}
use Rattle.areas_steps.specs.Marks.{WorkHolds}
use Rattle.areas_steps.proofs.spans.mark_spans.Given as goal

abbrev pub invariant-loop-k : goal.invariant-loop-k
invariant-loop-k l =
    let bytes = λ (ss : List Span). open_byte (directions_of l.directions) (map_of l.width l.height l.cells) ss in
    (before : List ℕ) → WorkHolds l.base (length l.cells) (bytes []) before l.initial.work
    → WorkHolds l.base (length l.cells) (bytes (spans_in l.ends l.k)) before l.work
