-- A link of two boundaries: 000's `Link`, as `candidate_links` fills it. Document 01: "Link keeps directions, centres and running extremes as single
-- f64 fields";
-- the extremes are Measure.antt's.
use Rattle.std.specs.Prelude.{true, false, List, [], ◌∷◌, ℕ, Float}
use Rattle.std.specs.Float.{inf, binary64}
use Rattle.std.specs.Float.Ieee.{of_bits}
use Rattle.length.specs.Floats.{min_of, max_of}
use Rattle.length.specs.declared.Length.{Length}
use Rattle.position.specs.Order.{canonical}
use Rattle.position.specs.declared.Span.{Span}
use Rattle.serial_links.specs.Geometry.{Vector, point_of, centre_of, towards, scaled, turned, dot, centre_distance, centre_length, span_length}

-- What a link sees of a boundary: its ends, and its width as f64 bits.
pub record Side : Type 0 where
  pub span : Span
  pub bits : ℕ

abbrev pub width_of : Side → Float
width_of s = of_bits binary64 s.bits

-- The least and the greatest of some values.
pub record Bounds : Type 0 where
  pub low : Float
  pub high : Float

-- Of no value: ∞ and −∞.
abbrev pub no_bounds : Bounds
no_bounds = record { low = inf false; high = inf true }

-- With one value more.
abbrev pub widened : Bounds → Float → Bounds
widened b v = record { low = min_of b.low v; high = max_of b.high v }

-- With the values of a list, one after another.
unfoldable pub widened_by : Bounds → List Float → Bounds
widened_by b [] = b
widened_by b (v ∷ vs) = widened_by (widened b v) vs

abbrev pub bounds_of : List Float → Bounds
bounds_of vs = widened_by no_bounds vs

pub record Link : Type 0 where
  -- the first centre
  pub centre : Vector
  -- center_distance, with its mark
  pub distance : Length
  -- from the first centre to the second, and across that
  pub unit : Vector
  pub normal : Vector
  -- along the first span, from its earlier end, and across it
  pub span_unit : Vector
  pub span_normal : Vector
  -- flat_bounds: of the four ends, along the first span and across it
  pub along : Bounds
  pub across : Bounds
  -- min_width
  pub min_width : Float

-- From the earlier end of a span to the later, by its length.
abbrev pub span_direction : Span → Vector
span_direction s = scaled (towards (point_of (canonical s).a) (point_of (canonical s).b)) (span_length (canonical s))

-- From the first centre to the second, by their distance.
abbrev pub link_direction : Span → Span → Vector
link_direction s t = scaled (towards (centre_of s) (centre_of t)) (centre_distance s t)

-- The bounds of the four ends on a direction, the first span's before the second's.
abbrev pub end_bounds : Span → Span → Vector → Bounds
end_bounds s t v =
    bounds_of
    (dot (point_of (canonical s).a) v ∷ dot (point_of (canonical s).b) v ∷ dot (point_of (canonical t).a) v ∷ dot (point_of (canonical t).b) v ∷ [])

-- The link of two boundaries, the first in canonical order first.
unfoldable pub link_of : Side → Side → Link
link_of first second = record {
  centre = centre_of first.span;
  distance = centre_length first.span second.span;
  unit = link_direction first.span second.span;
  normal = turned (link_direction first.span second.span);
  span_unit = span_direction first.span;
  span_normal = turned (span_direction first.span);
  along = end_bounds first.span second.span (span_direction first.span);
  across = end_bounds first.span second.span (turned (span_direction first.span));
  min_width = min_of (width_of first) (width_of second);
}
