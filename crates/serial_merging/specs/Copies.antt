-- Canonical copies: 000's `clone_boundary` and `clone_observation`. Document 01: "a canonical copy: earlier end first, own sources sorted,
-- observations in 000's order".
use Rattle.std.specs.Prelude.{List, map}
use Rattle.order.specs.Keys.{sort_by, sort_once_by}
use Rattle.position.specs.Order.{canonical}
use Rattle.format.specs.Values.{Observation, Boundary}
use Rattle.format.specs.declared.records.Source.{Source}
use Rattle.context.specs.Listing.{ends_key}
use Rattle.serial_merging.specs.Keys.{source_key, observation_key}

-- 000's `sorted_sources`: each source once.
abbrev pub sorted_sources : List Source → List Source
sorted_sources ss = sort_once_by source_key ss

-- Equal observations all stay.
abbrev pub sorted_observations : List Observation → List Observation
sorted_observations os = sort_by observation_key os

unfoldable pub canon_observation : Observation → Observation
canon_observation o = record { ends = canonical o.ends; bits = o.bits; sources = sorted_sources o.sources }

unfoldable pub canon : Boundary → Boundary
canon b = record {
  ends = canonical b.ends;
  bits = b.bits;
  ramp = b.ramp;
  sources = sorted_sources b.sources;
  observations = sorted_observations (map canon_observation b.observations);
}

-- "Kept boundaries are ordered by canonical ends, equal ones by input order": the copies of boundaries in this order.
unfoldable pub copies_of : List Boundary → List Boundary
copies_of bs = sort_by ends_key (map canon bs)
