-- Spans on a map, and the list of spans that an array holds: four numbers a span, the columns and rows of its two ends.
use Rattle.std.specs.Prelude.{◌≡◌, true, false, List, ℕ, ◌+◌, ◌*◌, ◌<◌, ◌≤◌, get_or}
use Rattle.lists.specs.Rows.{rows}
use Rattle.position.specs.Order.{pos_le, pos_same}
use Rattle.position.specs.declared.Span.{Span}

-- the earlier end is listed first, the ends are two positions, and both are on a map of width by height cells
pub record SpanFits (width height : ℕ) (s : Span) : Type 0 where
  pub ordered : pos_le s.a s.b ≡ true
  pub apart : pos_same s.a s.b ≡ false
  pub a-column : s.a.x ≤ 8 * width
  pub a-row : s.a.y ≤ 8 * height
  pub b-column : s.b.x ≤ 8 * width
  pub b-row : s.b.y ≤ 8 * height

-- the sides of a map that can be analysed
pub record Sides (width height : ℕ) : Type 0 where
  pub columns : 0 < width
  pub rows : 0 < height
  pub wide : width ≤ 1024
  pub high : height ≤ 1024

-- span i of the array, and the first n
unfoldable pub span_in : List ℕ → ℕ → Span
span_in ends i = record {
  a = record { x = get_or ends (4 * i) 0; y = get_or ends (4 * i + 1) 0 };
  b = record { x = get_or ends (4 * i + 2) 0; y = get_or ends (4 * i + 3) 0 };
}

unfoldable pub spans_in : List ℕ → ℕ → List Span
unfolding span_in rows
spans_in ends n = rows n (span_in ends)

-- each of the first n spans fits
pub record SpansFit (width height : ℕ) (ends : List ℕ) (n : ℕ) : Type 0 where
  pub each : (i : ℕ) → i < n → SpanFits width height (span_in ends i)
