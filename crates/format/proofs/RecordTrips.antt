-- The round trip of each record of fixed length: it is read where its bytes stand, and its bytes are those that it is read from.
use mathlib.Core.Path.{refl}
use mathlib.Core.List.{append_assoc}
use Rattle.format.specs.Sizes.{base_size, boundary_size, observation_size, source_size, span_size}
use Rattle.format.specs.Records.{position_at, position_bytes, span_at, span_bytes, source_at, source_bytes, base_at, base_bytes, ramp_at, ramp_bytes}
use Rattle.format.specs.Records.{boundary_at}
use Rattle.format.specs.Records.{boundary_bytes, observation_at, observation_bytes}
use Rattle.format.specs.Header.{counts_at, counts_bytes, offsets_at, offsets_bytes}
use Rattle.format.specs.Fits.{PositionFits, SpanEncodable, SourceFits, BaseRecordFits, RampRecordFits, BoundaryRecordFits, ObservationRecordFits}
use Rattle.format.specs.Fits.{CountsFit}
use Rattle.format.specs.Fits.{OffsetsFit}
use Rattle.format.proofs.Trip.{Trip, number-trip, byte-trip, both-trip, as-trip}

-- A position: column and row.
pub position-trip : Trip 8 position_at position_bytes PositionFits
unfolding position_at position_bytes
position-trip =
    as-trip
    (λ t. record { x = t.0; y = t.1 })
    (λ p. (p.x, p.y))
    (λ p. refl)
    (λ s i. refl)
    (λ t. refl)
    (λ p h. (h.x, h.y))
    (λ t h. record { x = h.0; y = h.1 })
    (both-trip (number-trip 4) (number-trip 4))

-- A span: two ends.
pub span-trip : Trip span_size span_at span_bytes SpanEncodable
unfolding span_at span_bytes
span-trip =
    as-trip
    (λ t. record { a = t.0; b = t.1 })
    (λ e. (e.a, e.b))
    (λ e. refl)
    (λ s i. refl)
    (λ t. refl)
    (λ e h. (h.a, h.b))
    (λ t h. record { a = h.0; b = h.1 })
    (both-trip position-trip position-trip)

-- A source: two words.
pub source-trip : Trip source_size source_at source_bytes SourceFits
unfolding source_at source_bytes
source-trip =
    as-trip
    (λ t. record { from = t.0; to = t.1 })
    (λ r. (r.from, r.to))
    (λ r. refl)
    (λ s i. refl)
    (λ t. refl)
    (λ r h. (h.from, h.to))
    (λ t h. record { from = h.0; to = h.1 })
    (both-trip (number-trip 4) (number-trip 4))

-- A base: its id, and its anchor's column and row.
pub base-trip : Trip base_size base_at base_bytes BaseRecordFits
unfolding base_at base_bytes
base-trip =
    as-trip
    (λ t. record { id = t.0.0; anchor = record { x = t.0.1; y = t.1 } })
    (λ r. ((r.id, r.anchor.x), r.anchor.y))
    (λ r. refl)
    (λ s i. refl)
    (λ t. simp append_assoc)
    (λ r h. ((h.id, h.x), h.y))
    (λ t h. record { id = h.0.0; x = h.0.1; y = h.1 })
    (both-trip (both-trip (number-trip 4) (number-trip 4)) (number-trip 4))

-- A ramp: four bytes and its id.
pub ramp-trip : Trip 8 ramp_at ramp_bytes RampRecordFits
unfolding ramp_at ramp_bytes
ramp-trip =
    as-trip
    (λ t. record { end = t.0.0.0.0; lower = t.0.0.0.1; upper = t.0.0.1; zero = t.0.1; id = t.1 })
    (λ r. ((((r.end, r.lower), r.upper), r.zero), r.id))
    (λ r. refl)
    (λ s i. refl)
    (λ t. refl)
    (λ r h. ((((h.end, h.lower), h.upper), h.zero), h.id))
    (λ t h. record { end = h.0.0.0.0; lower = h.0.0.0.1; upper = h.0.0.1; zero = h.0.1; id = h.1 })
    (both-trip (both-trip (both-trip (both-trip byte-trip byte-trip) byte-trip) byte-trip) (number-trip 4))

-- A boundary: its ends, width bits, two counts and its ramp.
pub boundary-trip : Trip boundary_size boundary_at boundary_bytes BoundaryRecordFits
unfolding boundary_at boundary_bytes
boundary-trip =
    as-trip
    (λ t. record { ends = t.0.0.0.0; bits = t.0.0.0.1; sources = t.0.0.1; observations = t.0.1; ramp = t.1 })
    (λ r. ((((r.ends, r.bits), r.sources), r.observations), r.ramp))
    (λ r. refl)
    (λ s i. refl)
    (λ t. simp append_assoc)
    (λ r h. ((((h.ends, h.bits), h.sources), h.observations), h.ramp))
    (λ t h. record { ends = h.0.0.0.0; bits = h.0.0.0.1; sources = h.0.0.1; observations = h.0.1; ramp = h.1 })
    (both-trip (both-trip (both-trip (both-trip span-trip (number-trip 8)) (number-trip 4)) (number-trip 4)) ramp-trip)

-- An observation: its ends, width bits and the count of its sources.
pub observation-trip : Trip observation_size observation_at observation_bytes ObservationRecordFits
unfolding observation_at observation_bytes
observation-trip =
    as-trip
    (λ t. record { ends = t.0.0; bits = t.0.1; sources = t.1 })
    (λ r. ((r.ends, r.bits), r.sources))
    (λ r. refl)
    (λ s i. refl)
    (λ t. simp append_assoc)
    (λ r h. ((h.ends, h.bits), h.sources))
    (λ t h. record { ends = h.0.0; bits = h.0.1; sources = h.1 })
    (both-trip (both-trip span-trip (number-trip 8)) (number-trip 4))

-- The first six words of a job.
pub counts-trip : Trip 24 counts_at counts_bytes CountsFit
unfolding counts_at counts_bytes
counts-trip =
    as-trip
    (λ t. record {
      width = t.0.0.0.0.0;
      height = t.0.0.0.0.1;
      bases = t.0.0.0.1;
      boundaries = t.0.0.1;
      observations = t.0.1;
      sources = t.1;
    })
    (λ c. (((((c.width, c.height), c.bases), c.boundaries), c.observations), c.sources))
    (λ c. refl)
    (λ s i. refl)
    (λ t. simp append_assoc)
    (λ c h. (((((h.width, h.height), h.bases), h.boundaries), h.observations), h.sources))
    (λ t h. record {
      width = h.0.0.0.0.0;
      height = h.0.0.0.0.1;
      bases = h.0.0.0.1;
      boundaries = h.0.0.1;
      observations = h.0.1;
      sources = h.1;
    })
    (both-trip (both-trip (both-trip (both-trip (both-trip (number-trip 4) (number-trip 4)) (number-trip 4)) (number-trip 4)) (number-trip 4)) (number-trip 4))

-- The next six.
pub offsets-trip : Trip 24 offsets_at offsets_bytes OffsetsFit
unfolding offsets_at offsets_bytes
offsets-trip =
    as-trip
    (λ t. record { cells = t.0.0.0.0.0; bases = t.0.0.0.0.1; boundaries = t.0.0.0.1; observations = t.0.0.1; sources = t.0.1; total = t.1 })
    (λ o. (((((o.cells, o.bases), o.boundaries), o.observations), o.sources), o.total))
    (λ o. refl)
    (λ s i. refl)
    (λ t. simp append_assoc)
    (λ o h. (((((h.cells, h.bases), h.boundaries), h.observations), h.sources), h.total))
    (λ t h. record {
      cells = h.0.0.0.0.0;
      bases = h.0.0.0.0.1;
      boundaries = h.0.0.0.1;
      observations = h.0.0.1;
      sources = h.0.1;
      total = h.1;
    })
    (both-trip (both-trip (both-trip (both-trip (both-trip (number-trip 4) (number-trip 4)) (number-trip 4)) (number-trip 4)) (number-trip 4)) (number-trip 4))
