-- Nearby and parallel spans: 000's `nearby_parallel_spans`, of an ordered pair: it divides by the first length, then by the second.
use Rattle.std.specs.Prelude.{Bool, cond, not, ◌&&◌, Float}
use Rattle.std.specs.Float.{binary64}
use Rattle.std.specs.Float.Ieee.{lt, le, of_bits}
use Rattle.length.specs.Floats.{◌⊘◌, abs_of}
use Rattle.position.specs.Order.{canonical, swapped}
use Rattle.position.specs.declared.Span.{Span}
use Rattle.serial_links.specs.Limits.{Limits}
use Rattle.serial_links.specs.Geometry.{Vector, point_of, towards, dot, point_distance, span_length}

-- From one end to the other.
abbrev pub span_vector : Span → Vector
span_vector s = towards (point_of s.a) (point_of s.b)

-- The cosine of the angle between two spans, of 0 to 90 degrees.
abbrev pub cosine_of : Span → Span → Float
cosine_of a b = abs_of (dot (span_vector a) (span_vector b)) ⊘ span_length a ⊘ span_length b

-- b, the other way round if it runs against a.
abbrev pub facing : Span → Span → Span
facing a b = cond (lt (dot (span_vector a) (span_vector b)) (of_bits binary64 0)) (swapped b) b

-- The first ends are near each other, and so are the second.
abbrev pub near_ends : Limits → Span → Span → Bool
near_ends limits a b = le (point_distance a.a b.a) limits.duplicate && le (point_distance a.b b.b) limits.duplicate

unfoldable pub nearby_parallel : Limits → Span → Span → Bool
nearby_parallel limits first second =
    let a = canonical first in
    let b = canonical second in
    not (lt (cosine_of a b) limits.cosine) && near_ends limits a (facing a b)
