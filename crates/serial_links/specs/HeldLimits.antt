-- The eight numbers, from the limits that the code passes on.
use Rattle.serial_links.specs.Limits.{Limits}
use Rattle.serial_links.specs.declared.limits.Limits.{Limits as LimitsHeld}

abbrev pub limits_of : LimitsHeld → Limits
limits_of l = record {
  least_spans = l.least_spans;
  most_spans = l.most_spans;
  chain = l.chain;
  width = l.width;
  geometry = l.geometry;
  duplicate = l.duplicate;
  envelope = l.envelope;
  cosine = l.cosine;
}
