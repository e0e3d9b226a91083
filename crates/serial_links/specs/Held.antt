-- Points, directions and bounds as the code holds them, and the spans that a map can have.
use Rattle.std.specs.Prelude.{ℕ, cond, Float}
use Rattle.std.specs.Float.{binary64}
use Rattle.std.specs.Float.Ieee.{of_bits, lt}
use Rattle.position.specs.Order.{swapped}
use Rattle.position.specs.Bounds.{Bounded}
use Rattle.position.specs.declared.Span.{Span}
use Rattle.length.specs.Floats.{◌⊕◌, ◌⊗◌, whole_float}
use Rattle.serial_links.specs.Geometry.{Vector, DoubledPoint, float4, float8, point_of, dot}
use Rattle.serial_links.specs.Link.{Bounds, widened}
use Rattle.serial_links.specs.declared.geometry.Point.{Point}
use Rattle.serial_links.specs.declared.geometry.Range.{Range}

pub record SpanBounded (s : Span) : Type 0 where
  pub first : Bounded s.a
  pub second : Bounded s.b

abbrev pub doubled : ℕ → ℕ → DoubledPoint
doubled x y = record { x = x; y = y }

abbrev pub vector : Point → Vector
vector p = record { x = p.x; y = p.y }

abbrev pub held_point : Vector → Point
held_point v = record { x = v.x; y = v.y }

abbrev pub range : Range → Bounds
range b = record { low = b.low; high = b.high }

abbrev pub held_range : Bounds → Range
held_range b = record { low = b.low; high = b.high }

-- The centre of the cell at a column and a row: `cellCentre` of the cell.
abbrev pub centre_at : ℕ → ℕ → Vector
centre_at column row = record { x = whole_float column ⊗ float8 ⊕ float4; y = whole_float row ⊗ float8 ⊕ float4 }

-- Bounds with the ends of a span on a direction.
abbrev pub with_ends : Bounds → Span → Vector → Bounds
with_ends b s v = widened (widened b (dot (point_of s.a) v)) (dot (point_of s.b) v)

-- `facing` by the dot product.
abbrev pub facing_by : Float → Span → Span
facing_by d b = cond (lt d (of_bits binary64 0)) (swapped b) b
