-- The strip of cells around a span in which the steps that it cuts are looked for: along the axis on which the span is longer, the cells
-- whose centres are at most 8 pixels past its ends; on the other axis, those whose centres are at most 16 pixels from the line. 002 looks
-- to a margin of 16 pixels past the ends, and 3 cells to either side of the line: the strip lies within that (`axis-stated`, `minor-stated`).
use Rattle.std.specs.Prelude.{Bool, List, ℕ, ◌+◌, ◌*◌, ◌-◌, ◌/◌, ◌≤◌, ◌<◌, min, max, leb, ltb}
use Rattle.std.proofs.Math.Bool.{cond}
use Rattle.order.specs.Lists.{up_from}
use Rattle.position.specs.declared.Span.{Span}
use Rattle.grid.specs.Cells.{Grid, index_of, column_of, row_of}
use Rattle.areas.specs.declared.candidates.CellRange.{CellRange}
use Rattle.areas.specs.declared.candidates.Line.{Line}

-- "CANDIDATE_MARGIN_PIXELS", "CANDIDATE_MINOR_RADIUS_CELLS"
abbrev pub margin : ℕ
margin = 16

abbrev pub radius : ℕ
radius = 3

-- 002's columns or rows along the span, from its least to its greatest pixel, of which the map has `limit`; and its rows or columns about a pixel
unfoldable pub stated_axis : ℕ → ℕ → ℕ → CellRange
stated_axis minimum maximum limit = record { first = (minimum - margin) / 8; last = min ((maximum + margin) / 8) (limit - 1) }

unfoldable pub stated_minor : ℕ → ℕ → CellRange
stated_minor reference limit = record { first = reference / 8 - radius; last = min (reference / 8 + radius) (limit - 1) }

-- how many pixels the centre of a cell with a cut step can be past an end of the span, and from the line
abbrev pub cut_reach : ℕ
cut_reach = 8

abbrev pub spread : ℕ
spread = 16

-- of `limit` columns or rows, those whose centre, pixel 8 k + 4, is from low to high
abbrev pub centred : ℕ → ℕ → ℕ → CellRange
centred low high limit = record { first = (low + 3) / 8; last = min ((high - 4) / 8) (limit - 1) }

-- the columns or rows along the span
unfoldable pub axis_range : ℕ → ℕ → ℕ → CellRange
axis_range minimum maximum limit = centred (minimum - cut_reach) (maximum + cut_reach) limit

-- the rows or columns about a pixel
unfoldable pub minor_range : ℕ → ℕ → CellRange
minor_range reference limit = centred (reference - spread) (reference + spread) limit

-- the numbers of a range, in order
abbrev pub numbers_of : CellRange → List ℕ
numbers_of r = up_from r.first (r.last + 1 - r.first)

abbrev pub InRange : CellRange → ℕ → Type 0
InRange r k = (r.first ≤ k) × (k ≤ r.last)

abbrev pub clamp : ℕ → ℕ → ℕ → ℕ
clamp v low high = max low (min v high)

-- the line from (l, lm) to (u, um) at v, rounded down: a mean of lm and um, so that nothing is negative
unfoldable pub line_at : ℕ → ℕ → ℕ → ℕ → ℕ → ℕ
line_at l lm u um v = (lm * (u - v) + um * (v - l)) / (u - l)

-- the cell c along the axis of the span, and cm on the other, on a map of size by sizem cells
pub record Near (l lm u um size sizem c cm : ℕ) : Type 0 where
  pub along : InRange (axis_range l u size) c
  pub beside : InRange (minor_range (line_at l lm u um (clamp (8 * c + 4) l u)) sizem) cm

-- how far apart
abbrev pub gap : ℕ → ℕ → ℕ
gap m n = (m - n) + (n - m)

-- the cell is in the strip of a span whose earlier end is listed first
pub data InStrip (g : Grid) (s : Span) (i : ℕ) : Type 0 where
  wide : gap s.a.y s.b.y ≤ gap s.a.x s.b.x → Near s.a.x s.a.y s.b.x s.b.y g.width g.height (column_of g i) (row_of g i)
      → InStrip g s i
  falls : gap s.a.x s.b.x < gap s.a.y s.b.y → s.a.y ≤ s.b.y
      → Near s.a.y s.a.x s.b.y s.b.x g.height g.width (row_of g i) (column_of g i) → InStrip g s i
  rises : gap s.a.x s.b.x < gap s.a.y s.b.y → s.b.y < s.a.y
      → Near s.b.y s.b.x s.a.y s.a.x g.height g.width (row_of g i) (column_of g i) → InStrip g s i

-- the span is longer along the rows than along the columns
unfoldable pub tall : Span → Bool
tall s = ltb (gap s.a.x s.b.x) (gap s.a.y s.b.y)

-- the ends of the span by the axis on which it is longer, the lower one first
unfoldable pub line_of : Span → Line
unfolding tall
line_of s =
    cond (tall s)
    (cond (leb s.a.y s.b.y) (record { l = s.a.y; lm = s.a.x; u = s.b.y; um = s.b.x })
    (record { l = s.b.y; lm = s.b.x; u = s.a.y; um = s.a.x }))
    (record { l = s.a.x; lm = s.a.y; u = s.b.x; um = s.b.y })

-- the strip of the span on a map of width by height cells: the columns or rows along it, and those about the line at one of these
module _ (width height : ℕ) (s : Span) where
  unfoldable pub strip_axis : CellRange
  unfolding axis_range tall line_of
  strip_axis = axis_range (line_of s).l (line_of s).u (cond (tall s) height width)

  unfoldable pub strip_minor : ℕ → CellRange
  unfolding minor_range line_at tall line_of
  strip_minor c = minor_range (line_at (line_of s).l (line_of s).lm (line_of s).u (line_of s).um (clamp (8 * c + 4) (line_of s).l (line_of s).u))
      (cond (tall s) width height)

-- the coordinate of a cell along the span and the other one, and the cell at two such
module _ (g : Grid) (s : Span) where
  unfoldable pub major_of : ℕ → ℕ
  unfolding tall
  major_of i = cond (tall s) (row_of g i) (column_of g i)

  unfoldable pub minor_of : ℕ → ℕ
  unfolding tall
  minor_of i = cond (tall s) (column_of g i) (row_of g i)

  unfoldable pub cell_of : ℕ → ℕ → ℕ
  unfolding tall
  cell_of c cm = cond (tall s) (index_of g cm c) (index_of g c cm)

-- the cell is in the ranges of the strip
pub record StripHolds (g : Grid) (s : Span) (i : ℕ) : Type 0 where
  pub along : InRange (strip_axis g.width g.height s) (major_of g s i)
  pub beside : InRange (strip_minor g.width g.height s (major_of g s i)) (minor_of g s i)
