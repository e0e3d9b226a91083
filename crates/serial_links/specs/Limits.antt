-- The eight fixed numbers of source document 000. Document 01: "eight fixed numbers belong to the type whose rule they limit".
-- Every rule takes them as an argument.
use Rattle.std.specs.Prelude.{ℕ, Float}
use Rattle.std.specs.Float.{binary64}
use Rattle.std.specs.Float.Ieee.{of_bits}

pub record Limits : Type 0 where
  -- MIN_GROUP_SPANS, MAX_GROUP_SPANS: how many boundaries a serial group has; the greatest holds for flat groups too
  pub least_spans : ℕ
  pub most_spans : ℕ
  -- MAX_CHAIN_DISTANCE_PIXELS: of a serial group's sum of centre distances, and of its ends' distance
  pub chain : Float
  -- WIDTH_TOLERANCE_PIXELS: how much wider than the narrowest member a retained one may be
  pub width : Float
  -- GEOMETRY_TOLERANCE_PIXELS: of a link's envelopes
  pub geometry : Float
  -- FLAT_DUPLICATE_DISTANCE_PIXELS: how far apart the ends of nearby spans may be
  pub duplicate : Float
  -- FLAT_ENVELOPE_TOLERANCE_PIXELS: how far a flat region may reach past its spans
  pub envelope : Float
  -- PARALLEL_COSINE: the least cosine of the angle between parallel spans
  pub cosine : Float

-- 3, 4, 384.0, 8.0, 16.0, 128.0, 32.0, 0.9659258262890683.
abbrev pub limits000 : Limits
limits000 = record {
  least_spans = 3;
  most_spans = 4;
  chain = of_bits binary64 0x4078_0000_0000_0000;
  width = of_bits binary64 0x4020_0000_0000_0000;
  geometry = of_bits binary64 0x4030_0000_0000_0000;
  duplicate = of_bits binary64 0x4060_0000_0000_0000;
  envelope = of_bits binary64 0x4040_0000_0000_0000;
  cosine = of_bits binary64 0x3FEE_E8DD_4748_BF15;
}
