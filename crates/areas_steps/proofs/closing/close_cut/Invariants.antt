use mathlib.Core.List.{List}
use Prim.Native.Nat.{ℕ, ◌*◌}
use Rattle.areas.specs.Open.{open_byte}
use Rattle.grid.specs.Cells.{Grid, size}
use Rattle.position.specs.declared.Span.{Span}
use Rattle.areas_steps.specs.Marks.{MapOf, WorkHolds, Half}
use Rattle.areas_steps.proofs.closing.close_cut.Given as goal

abbrev pub invariant-loop-c : goal.invariant-loop-c
invariant-loop-c l =
    (g : Grid) (dirs : List ℕ) (ss : List Span) (before : List ℕ) → MapOf l.width l.height g
    → WorkHolds l.base (size g) (open_byte dirs g ss) before l.initial.work → Half l.base g dirs ss l.fn.span (l.c * 1024) before l.work
