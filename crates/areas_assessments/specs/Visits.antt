-- The steps that a span cuts, in the order in which its strip is gone through.
use Rattle.std.specs.Prelude.{◌≡◌, Bool, ◌&&◌, ℕ, ◌*◌, length}
use Rattle.std.proofs.Math.Bool.{cond}
use mathlib.Core.List.{List, [], ◌∷◌}
use Rattle.order.specs.Lists.{gather, up_from, has}
use Rattle.position.specs.declared.Span.{Span}
use Rattle.graph.specs.Path.{Edge}
use Rattle.grid.specs.Cells.{Grid}
use Rattle.grid.specs.Steps.{has_step, neighbour, step_of}
use Rattle.areas.specs.Spans.{SpanFits, Sides}
use Rattle.areas.specs.Cuts.{cut_by}
use Rattle.areas.specs.Strip.{numbers_of, strip_axis, strip_minor, cell_of}

-- the bytes of a map and of its labels, and a span on it
pub record SpanOnMap (width height : ℕ) (cs labels : List ℕ) (s : Span) : Type 0 where
  pub sides : Sides width height
  pub whole : length cs ≡ width * height
  pub labelled : length labels ≡ 4 * (width * height)
  pub span : SpanFits width height s

module _ (dirs : List ℕ) (g : Grid) (s : Span) where
  -- the direction is in the set, and the span cuts the step from the cell in it
  unfoldable pub is_cut_in : ℕ → ℕ → Bool
  unfolding has has_step cut_by
  is_cut_in i d = has d dirs && (has_step g i d && cut_by g s (step_of i (neighbour g i d)))

  -- that step, if it is cut
  unfoldable pub cut_in : ℕ → ℕ → List Edge
  unfolding is_cut_in
  cut_in i d = cond (is_cut_in i d) (step_of i (neighbour g i d) ∷ []) []

  -- from a cell to later ones
  unfoldable pub cut_from : ℕ → List Edge
  unfolding cut_in gather up_from
  cut_from i = gather (cut_in i) (up_from 5 4)

  -- from the cells of the strip at one column, or row, along the span
  unfoldable pub cut_beside : ℕ → List Edge
  unfolding cut_from gather up_from strip_minor cell_of
  cut_beside c = gather (λ cm. cut_from (cell_of g s c cm)) (numbers_of (strip_minor g.width g.height s c))

  -- from all cells of the strip
  unfoldable pub cut_along : List Edge
  unfolding cut_beside gather up_from strip_axis
  cut_along = gather cut_beside (numbers_of (strip_axis g.width g.height s))
