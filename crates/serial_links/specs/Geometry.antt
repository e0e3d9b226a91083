-- Points, centres and distances.
use Rattle.std.specs.Prelude.{ℕ, ◌+◌, ◌-◌, ◌*◌, ◌/◌, ◌%◌, Float}
use Rattle.std.specs.Float.{binary64}
use Rattle.std.specs.Float.Ieee.{neg, of_bits}
use Rattle.length.specs.Length.{length_of, length_at}
use Rattle.length.specs.Floats.{◌⊕◌, ◌⊖◌, ◌⊗◌, ◌⊘◌, whole_float, abs_of}
use Rattle.length.specs.declared.Length.{Length}
use Rattle.position.specs.declared.PixelPosition.{PixelPosition}
use Rattle.position.specs.declared.Span.{Span}

-- 1.5, 2.0, 4.0, 8.0: half a cell is 4 pixels, a cell 8.
abbrev pub one_and_half : Float
one_and_half = of_bits binary64 0x3FF8_0000_0000_0000

abbrev pub two : Float
two = of_bits binary64 0x4000_0000_0000_0000

abbrev pub float4 : Float
float4 = of_bits binary64 0x4010_0000_0000_0000

abbrev pub float8 : Float
float8 = of_bits binary64 0x4020_0000_0000_0000

-- A point, or a direction.
pub record Vector : Type 0 where
  pub x : Float
  pub y : Float

-- 001's `point`.
abbrev pub point_of : PixelPosition → Vector
point_of p = record { x = whole_float p.x; y = whole_float p.y }

-- 001's `center`.
abbrev pub centre_of : Span → Vector
centre_of s = record { x = (whole_float s.a.x ⊕ whole_float s.b.x) ⊘ two; y = (whole_float s.a.y ⊕ whole_float s.b.y) ⊘ two }

-- The centre of a cell in a map of the given width. Document 01: "Cell centres are (8c + 4, 8r + 4)."
abbrev pub cell_centre : ℕ → ℕ → Vector
cell_centre columns cell = record { x = whole_float (cell % columns) ⊗ float8 ⊕ float4; y = whole_float (cell / columns) ⊗ float8 ⊕ float4 }

-- From a to b.
abbrev pub towards : Vector → Vector → Vector
towards a b = record { x = b.x ⊖ a.x; y = b.y ⊖ a.y }

-- A vector by its length.
abbrev pub scaled : Vector → Float → Vector
scaled v l = record { x = v.x ⊘ l; y = v.y ⊘ l }

-- A quarter turn: (−y, x).
abbrev pub turned : Vector → Vector
turned v = record { x = neg v.y; y = v.x }

-- The dot product; the projection of p on a direction v.
abbrev pub dot : Vector → Vector → Float
dot p v = p.x ⊗ v.x ⊕ p.y ⊗ v.y

-- |x| + |y|: how far a square of side 1 reaches along the direction v.
abbrev pub reach : Vector → Float
reach v = abs_of v.x ⊕ abs_of v.y

-- A point whose coordinates are halves of whole_float numbers, by the doubled coordinates.
pub record DoubledPoint : Type 0 where
  pub x : ℕ
  pub y : ℕ

abbrev pub doubled_point : PixelPosition → DoubledPoint
doubled_point p = record { x = 2 * p.x; y = 2 * p.y }

abbrev pub doubled_centre : Span → DoubledPoint
doubled_centre s = record { x = s.a.x + s.b.x; y = s.a.y + s.b.y }

-- How far two numbers are apart.
abbrev pub apart : ℕ → ℕ → ℕ
apart m n = m - n + (n - m)

-- Document 01: "D the sum of squares of the doubled differences".
unfoldable pub squares : DoubledPoint → DoubledPoint → ℕ
squares p q = apart p.x q.x * apart p.x q.x + apart p.y q.y * apart p.y q.y

-- 001's `distance`, and the `hypot` of every difference of two points or centres: coordinates are whole_float numbers up to 8,192
-- or halves of such sums, so that their f64 differences are exact, and D is float4 times the sum of the differences' squares.
abbrev pub distance : DoubledPoint → DoubledPoint → Float
distance p q = length_of (squares p q)

abbrev pub point_distance : PixelPosition → PixelPosition → Float
point_distance p q = distance (doubled_point p) (doubled_point q)

abbrev pub centre_distance : Span → Span → Float
centre_distance s t = distance (doubled_centre s) (doubled_centre t)

abbrev pub span_length : Span → Float
span_length s = point_distance s.a s.b

-- The same with their marks. Document 02: "The length routine now also says whether √D ÷ 2 is met exactly".
abbrev pub length_between : DoubledPoint → DoubledPoint → Length
length_between p q = length_at (squares p q)

abbrev pub point_length : PixelPosition → PixelPosition → Length
point_length p q = length_between (doubled_point p) (doubled_point q)

abbrev pub centre_length : Span → Span → Length
centre_length s t = length_between (doubled_centre s) (doubled_centre t)
