-- Values from bytes: jobs, span lists and answers.
use Rattle.std.specs.Prelude.{ℕ, ◌+◌, ◌*◌, ◌/◌, cond, ◌&&◌, List, [], ◌∷◌, map, eqb, length, take, drop}
use Rattle.std.proofs.Math.Option.{Option, none, some}
use Rattle.lists.specs.Rows.{rows, sum}
use Rattle.position.specs.declared.WalkPosition.{WalkPosition}
use Rattle.position.specs.declared.Span.{Span}
use Rattle.wire.specs.Bytes.{part, u32_at}
use Rattle.format.specs.Sizes.{no_anchor, header_size, answer_header_size, base_size, boundary_size, observation_size, source_size, span_size}
use Rattle.format.specs.Values.{Base, Ramp, Observation, Boundary, Job}
use Rattle.format.specs.Records.{span_at, source_at, base_at, boundary_at, observation_at}
use Rattle.format.specs.Header.{counts_at, map_cells, bases_start, boundaries_start}
use Rattle.format.specs.declared.header.Counts.{Counts}
use Rattle.format.specs.declared.records.Source.{Source}
use Rattle.format.specs.declared.records.BaseRecord.{BaseRecord}
use Rattle.format.specs.declared.records.RampRecord.{RampRecord}
use Rattle.format.specs.declared.records.BoundaryRecord.{BoundaryRecord}
use Rattle.format.specs.declared.records.ObservationRecord.{ObservationRecord}

-- "both 4,294,967,295 means no anchor"
unfoldable pub anchor_of : WalkPosition → Option WalkPosition
anchor_of p = cond (eqb p.x no_anchor && eqb p.y no_anchor) none (some p)

unfoldable pub base_of : BaseRecord → Base
unfolding anchor_of
base_of r = record { id = r.id; anchor = anchor_of r.anchor }

unfoldable pub ramp_of : RampRecord → Ramp
ramp_of r = record { end = r.end; lower = r.lower; upper = r.upper; id = r.id }

-- How many observations and how many own sources boundaries have in all.
abbrev pub observation_total : List BoundaryRecord → ℕ
observation_total bs = sum (map (λ (b : BoundaryRecord). b.observations) bs)

abbrev pub own_total : List BoundaryRecord → ℕ
own_total bs = sum (map (λ (b : BoundaryRecord). b.sources) bs)

-- How many sources observations have in all.
unfoldable pub source_count : List ObservationRecord → ℕ
unfolding sum
source_count os = sum (map (λ (o : ObservationRecord). o.sources) os)

-- Observations, each with the next of the sources.
unfoldable pub observations_with : List ObservationRecord → List Source → List Observation
observations_with [] ss = []
observations_with (o ∷ os) ss = record { ends = o.ends; bits = o.bits; sources = take o.sources ss } ∷ observations_with os (drop o.sources ss)

-- A boundary with the observations os and, of the sources, first its own and then those of its observations.
unfoldable pub boundary_with : BoundaryRecord → List ObservationRecord → List Source → Boundary
unfolding observations_with ramp_of
boundary_with r os ss = record {
  ends = r.ends;
  bits = r.bits;
  ramp = ramp_of r.ramp;
  sources = take r.sources ss;
  observations = observations_with os (drop r.sources ss);
}

-- Boundaries, each with the next of the observations and of the sources.
unfoldable pub boundaries_with : List BoundaryRecord → List ObservationRecord → List Source → List Boundary
unfolding boundary_with source_count
boundaries_with [] os ss = []
boundaries_with (r ∷ rs) os ss =
    boundary_with r (take r.observations os) ss
    ∷ boundaries_with rs (drop r.observations os) (drop (r.sources + source_count (take r.observations os)) ss)

-- n records of each kind, side by side from place i.
unfoldable pub boundary_records : List ℕ → ℕ → ℕ → List BoundaryRecord
unfolding rows
boundary_records s i n = rows n (λ k. boundary_at s (i + k * boundary_size))

unfoldable pub observation_records : List ℕ → ℕ → ℕ → List ObservationRecord
unfolding rows
observation_records s i n = rows n (λ k. observation_at s (i + k * observation_size))

unfoldable pub source_records : List ℕ → ℕ → ℕ → List Source
unfolding rows
source_records s i n = rows n (λ k. source_at s (i + k * source_size))

unfoldable pub base_records : List ℕ → ℕ → ℕ → List BaseRecord
unfolding rows
base_records s i n = rows n (λ k. base_at s (i + k * base_size))

-- The three sections that jobs and answers share, from place i: b boundaries, o observations, n sources.
unfoldable pub decode_boundaries : List ℕ → ℕ → ℕ → ℕ → ℕ → List Boundary
unfolding boundaries_with
decode_boundaries s i b o n =
    boundaries_with (boundary_records s i b)
    (observation_records s (i + b * boundary_size) o)
    (source_records s (i + b * boundary_size + o * observation_size) n)

unfoldable pub job_with : Counts → List ℕ → Job
unfolding part base_of
job_with c s = record {
  width = c.width;
  height = c.height;
  cells = part s header_size (map_cells c);
  bases = map base_of (base_records s (bases_start c) c.bases);
  boundaries = decode_boundaries s (boundaries_start c) c.boundaries c.observations c.sources;
}

unfoldable pub decode : List ℕ → Job
decode s = job_with (counts_at s 0) s

unfoldable pub decode_list : List ℕ → List Span
unfolding rows
decode_list l = rows (length l / span_size) (λ k. span_at l (k * span_size))

unfoldable pub decode_answer : List ℕ → List Boundary
decode_answer s = decode_boundaries s answer_header_size (u32_at s 0) (u32_at s 4) (u32_at s 8)
