-- What 'within the limits' means for values and records, and for a job's bytes.
use Rattle.std.specs.Prelude.{◌≡◌, ◌≢◌, List, ℕ, ◌+◌, ◌*◌, ◌≤◌, ◌<◌, length}
use Rattle.std.proofs.Math.Option.{some}
use Rattle.lists.specs.Rows.{All}
use Rattle.position.specs.declared.PixelPosition.{PixelPosition}
use Rattle.position.specs.declared.WalkPosition.{WalkPosition}
use Rattle.position.specs.declared.Span.{Span}
use Rattle.format.specs.Sizes.{no_anchor, header_size, boundary_size, counts_size}
use Rattle.format.specs.Bounds.{max_side, max_bases, max_boundaries, max_observations, max_sources}
use Rattle.format.specs.Values.{Base, Ramp, Observation, Boundary, Job}
use Rattle.format.specs.Records.{boundary_at}
use Rattle.format.specs.Header.{counts_at, offsets_at, offsets_of, boundaries_start, observations_start, total_length}
use Rattle.format.specs.Encode.{observations_of, sources_of, counts_of}
use Rattle.format.specs.Decode.{boundary_records, observation_records, observation_total, own_total, source_count}
use Rattle.format.specs.declared.header.Counts.{Counts}
use Rattle.format.specs.declared.header.Offsets.{Offsets}
use Rattle.format.specs.declared.records.Source.{Source}
use Rattle.format.specs.declared.records.BaseRecord.{BaseRecord}
use Rattle.format.specs.declared.records.RampRecord.{RampRecord}
use Rattle.format.specs.declared.records.BoundaryRecord.{BoundaryRecord}
use Rattle.format.specs.declared.records.ObservationRecord.{ObservationRecord}

-- A number of one, four or eight bytes.
abbrev pub IsByte : ℕ → Type 0
IsByte v = v < 256

abbrev pub IsWord : ℕ → Type 0
IsWord v = v < 4_294_967_296

abbrev pub IsLong : ℕ → Type 0
IsLong v = v < 18_446_744_073_709_551_616

pub record PositionFits (p : PixelPosition) : Type 0 where
  pub x : IsWord p.x
  pub y : IsWord p.y

pub record SpanEncodable (e : Span) : Type 0 where
  pub a : PositionFits e.a
  pub b : PositionFits e.b

pub record SourceFits (r : Source) : Type 0 where
  pub from : IsWord r.from
  pub to : IsWord r.to

-- The records, each field within its bytes.
pub record BaseRecordFits (r : BaseRecord) : Type 0 where
  pub id : IsWord r.id
  pub x : IsWord r.anchor.x
  pub y : IsWord r.anchor.y

pub record RampRecordFits (r : RampRecord) : Type 0 where
  pub end : IsByte r.end
  pub lower : IsByte r.lower
  pub upper : IsByte r.upper
  pub zero : IsByte r.zero
  pub id : IsWord r.id

pub record BoundaryRecordFits (r : BoundaryRecord) : Type 0 where
  pub ends : SpanEncodable r.ends
  pub bits : IsLong r.bits
  pub sources : IsWord r.sources
  pub observations : IsWord r.observations
  pub ramp : RampRecordFits r.ramp

pub record ObservationRecordFits (r : ObservationRecord) : Type 0 where
  pub ends : SpanEncodable r.ends
  pub bits : IsLong r.bits
  pub sources : IsWord r.sources

pub record CountsFit (c : Counts) : Type 0 where
  pub width : IsWord c.width
  pub height : IsWord c.height
  pub bases : IsWord c.bases
  pub boundaries : IsWord c.boundaries
  pub observations : IsWord c.observations
  pub sources : IsWord c.sources

pub record OffsetsFit (o : Offsets) : Type 0 where
  pub cells : IsWord o.cells
  pub bases : IsWord o.bases
  pub boundaries : IsWord o.boundaries
  pub observations : IsWord o.observations
  pub sources : IsWord o.sources
  pub total : IsWord o.total

-- An anchor that is there is not the one that means 'none'.
pub record AnchorFits (p : WalkPosition) : Type 0 where
  pub x : IsWord p.x
  pub y : IsWord p.y
  pub there : p.x ≡ no_anchor → p.y ≢ no_anchor

pub record BaseFits (b : Base) : Type 0 where
  pub id : IsWord b.id
  pub anchor : (p : WalkPosition) → b.anchor ≡ some p → AnchorFits p

pub record RampFits (r : Ramp) : Type 0 where
  pub end : IsByte r.end
  pub lower : IsByte r.lower
  pub upper : IsByte r.upper
  pub id : IsWord r.id

pub record ObservationFits (o : Observation) : Type 0 where
  pub ends : SpanEncodable o.ends
  pub bits : IsLong o.bits
  pub sources : All SourceFits o.sources

pub record BoundaryFits (b : Boundary) : Type 0 where
  pub ends : SpanEncodable b.ends
  pub bits : IsLong b.bits
  pub ramp : RampFits b.ramp
  pub sources : All SourceFits b.sources
  pub observations : All ObservationFits b.observations

-- "2 width or height not 1 to 1,024. 3 over 256 bases, 1,024 observations or 4,096 sources. 4 over 256 boundaries": what passes these.
pub record CountsAllowed (c : Counts) : Type 0 where
  pub width_some : 1 ≤ c.width
  pub width : c.width ≤ max_side
  pub height-some : 1 ≤ c.height
  pub height : c.height ≤ max_side
  pub bases : c.bases ≤ max_bases
  pub boundaries : c.boundaries ≤ max_boundaries
  pub observations : c.observations ≤ max_observations
  pub sources : c.sources ≤ max_sources

pub record JobFits (j : Job) : Type 0 where
  pub counts : CountsAllowed (counts_of j)
  pub cells : length j.cells ≡ j.width * j.height
  pub bases : All BaseFits j.bases
  pub boundaries : All BoundaryFits j.boundaries

-- An answer has no more boundaries than its job, at most an observation more for each of them, and at most twice the sources.
pub record AnswerFits (bs : List Boundary) : Type 0 where
  pub boundary-count : length bs ≤ max_boundaries
  pub observation-count : length (observations_of bs) ≤ max_observations + max_boundaries
  pub source-count : length (sources_of bs) ≤ 2 * max_sources
  pub boundaries : All BoundaryFits bs

-- Bytes whose sections stand where the counts c put them, whose counts add up and whose zero bytes are zero.
pub record FormedWith (c : Counts) (s : List ℕ) : Type 0 where
  pub header : header_size ≤ length s
  pub offsets : offsets_at s counts_size ≡ offsets_of c
  pub total : length s ≡ total_length c
  pub observations : observation_total (boundary_records s (boundaries_start c) c.boundaries) ≡ c.observations
  pub sources : own_total (boundary_records s (boundaries_start c) c.boundaries) + source_count
      (observation_records s (observations_start c) c.observations) ≡ c.sources
  pub zeros : (k : ℕ) → k < c.boundaries → (boundary_at s (boundaries_start c + k * boundary_size)).ramp.zero ≡ 0

-- A job's bytes, as far as refusals 1, 5, 8 and 9 leave them and encoding after decoding rests on it.
abbrev pub Formed : List ℕ → Type 0
Formed s = FormedWith (counts_at s 0) s
