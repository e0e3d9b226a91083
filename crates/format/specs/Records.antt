-- Each record of fixed length: as it is read at a place, and as bytes.
use Rattle.std.specs.Prelude.{ℕ, ◌+◌, List, ◌∷◌, ◌++◌, get_or}
use Rattle.position.specs.declared.PixelPosition.{PixelPosition}
use Rattle.position.specs.declared.Span.{Span}
use Rattle.wire.specs.Bytes.{u32_at, u64_at, u32_bytes, u64_bytes}
use Rattle.format.specs.declared.records.Source.{Source}
use Rattle.format.specs.declared.records.BaseRecord.{BaseRecord}
use Rattle.format.specs.declared.records.RampRecord.{RampRecord}
use Rattle.format.specs.declared.records.BoundaryRecord.{BoundaryRecord}
use Rattle.format.specs.declared.records.ObservationRecord.{ObservationRecord}

-- Column and row.
unfoldable pub position_at : List ℕ → ℕ → PixelPosition
position_at s i = record { x = u32_at s i; y = u32_at s (i + 4) }

unfoldable pub position_bytes : PixelPosition → List ℕ
position_bytes p = u32_bytes p.x ++ u32_bytes p.y

-- "two ends (column, row each)"
unfoldable pub span_at : List ℕ → ℕ → Span
unfolding position_at
span_at s i = record { a = position_at s i; b = position_at s (i + 8) }

unfoldable pub span_bytes : Span → List ℕ
unfolding position_bytes
span_bytes e = position_bytes e.a ++ position_bytes e.b

-- "Source, 8: two u32."
unfoldable pub source_at : List ℕ → ℕ → Source
source_at s i = record { from = u32_at s i; to = u32_at s (i + 4) }

unfoldable pub source_bytes : Source → List ℕ
source_bytes r = u32_bytes r.from ++ u32_bytes r.to

-- "Base, 12: id, anchor column, anchor row"
unfoldable pub base_at : List ℕ → ℕ → BaseRecord
base_at s i = record { id = u32_at s i; anchor = record { x = u32_at s (i + 4); y = u32_at s (i + 8) } }

unfoldable pub base_bytes : BaseRecord → List ℕ
base_bytes r = u32_bytes r.id ++ (u32_bytes r.anchor.x ++ u32_bytes r.anchor.y)

-- "ramp end (byte: 0 none, 1 lower, 2 upper), lower and upper elevation bytes, a zero byte, ramp id u32"
unfoldable pub ramp_at : List ℕ → ℕ → RampRecord
ramp_at s i = record { end = get_or s i 0; lower = get_or s (i + 1) 0; upper = get_or s (i + 2) 0; zero = get_or s (i + 3) 0; id = u32_at s (i + 4) }

unfoldable pub ramp_bytes : RampRecord → List ℕ
ramp_bytes r = r.end ∷ r.lower ∷ r.upper ∷ r.zero ∷ u32_bytes r.id

-- "Boundary, 40: two ends, f64 width bits, own source count, observation count", then its ramp
unfoldable pub boundary_at : List ℕ → ℕ → BoundaryRecord
unfolding span_at ramp_at
boundary_at s i =
    record { ends = span_at s i; bits = u64_at s (i + 16); sources = u32_at s (i + 24); observations = u32_at s (i + 28); ramp = ramp_at s (i + 32) }

unfoldable pub boundary_bytes : BoundaryRecord → List ℕ
unfolding span_bytes ramp_bytes
boundary_bytes r = span_bytes r.ends ++ (u64_bytes r.bits ++ (u32_bytes r.sources ++ (u32_bytes r.observations ++ ramp_bytes r.ramp)))

-- "Observation, 28: two ends, width bits, source count"
unfoldable pub observation_at : List ℕ → ℕ → ObservationRecord
unfolding span_at
observation_at s i = record { ends = span_at s i; bits = u64_at s (i + 16); sources = u32_at s (i + 24) }

unfoldable pub observation_bytes : ObservationRecord → List ℕ
unfolding span_bytes
observation_bytes r = span_bytes r.ends ++ (u64_bytes r.bits ++ u32_bytes r.sources)

-- An observation's record of its parts.
unfoldable pub observation_words : Span → ℕ → ℕ → ObservationRecord
observation_words e b n = record { ends = e; bits = b; sources = n }
