-- Bytes from values: jobs, span lists and answers.
use Rattle.std.specs.Prelude.{ℕ, ◌+◌, ◌*◌, length}
use mathlib.Core.List.{List, [], ◌∷◌, ◌++◌, flat_map}
use Rattle.std.proofs.Math.Option.{Option, none, some}
use Rattle.position.specs.declared.WalkPosition.{WalkPosition}
use Rattle.position.specs.declared.Span.{Span}
use Rattle.wire.specs.Bytes.{u32_bytes}
use Rattle.format.specs.Sizes.{no_anchor, answer_header_size, answer_boundary_size, observation_size, source_size}
use Rattle.format.specs.Values.{Base, Ramp, Observation, Boundary, Job}
use Rattle.format.specs.Records.{span_bytes, source_bytes, base_bytes, boundary_bytes, observation_bytes}
use Rattle.format.specs.Header.{counts_bytes, offsets_bytes, offsets_of}
use Rattle.format.specs.declared.header.Counts.{Counts}
use Rattle.format.specs.declared.records.Source.{Source}
use Rattle.format.specs.declared.records.BaseRecord.{BaseRecord}
use Rattle.format.specs.declared.records.RampRecord.{RampRecord}
use Rattle.format.specs.declared.records.BoundaryRecord.{BoundaryRecord}
use Rattle.format.specs.declared.records.ObservationRecord.{ObservationRecord}

-- "both 4,294,967,295 means no anchor"
unfoldable pub anchor_record : Option WalkPosition → WalkPosition
anchor_record none = record { x = no_anchor; y = no_anchor }
anchor_record (some p) = p

unfoldable pub base_record : Base → BaseRecord
unfolding anchor_record
base_record b = record { id = b.id; anchor = anchor_record b.anchor }

unfoldable pub ramp_record : Ramp → RampRecord
ramp_record r = record { end = r.end; lower = r.lower; upper = r.upper; zero = 0; id = r.id }

unfoldable pub boundary_record : Boundary → BoundaryRecord
unfolding ramp_record
boundary_record b = record {
  ends = b.ends;
  bits = b.bits;
  sources = length b.sources;
  observations = length b.observations;
  ramp = ramp_record b.ramp;
}

unfoldable pub observation_record : Observation → ObservationRecord
observation_record o = record { ends = o.ends; bits = o.bits; sources = length o.sources }

-- "Observation: in boundary order"
unfoldable pub observations_of : List Boundary → List Observation
unfolding flat_map
observations_of bs = flat_map (λ (b : Boundary). b.observations) bs

-- "Each boundary's own, then those of its observations."
unfoldable pub sources_with : Boundary → List Source
unfolding flat_map
sources_with b = b.sources ++ flat_map (λ (o : Observation). o.sources) b.observations

unfoldable pub sources_of : List Boundary → List Source
unfolding flat_map sources_with
sources_of bs = flat_map sources_with bs

-- The three sections that jobs and answers share.
unfoldable pub encode_boundaries : List Boundary → List ℕ
unfolding flat_map
encode_boundaries bs =
    flat_map (λ (b : Boundary). boundary_bytes (boundary_record b)) bs
    ++ (flat_map (λ (o : Observation). observation_bytes (observation_record o)) (observations_of bs)
    ++ flat_map source_bytes (sources_of bs))

unfoldable pub counts_of : Job → Counts
counts_of j = record {
  width = j.width;
  height = j.height;
  bases = length j.bases;
  boundaries = length j.boundaries;
  observations = length (observations_of j.boundaries);
  sources = length (sources_of j.boundaries);
}

unfoldable pub encode : Job → List ℕ
unfolding flat_map
encode j =
    counts_bytes (counts_of j)
    ++ (offsets_bytes (offsets_of (counts_of j))
    ++ (j.cells
    ++ (flat_map (λ (b : Base). base_bytes (base_record b)) j.bases
    ++ encode_boundaries j.boundaries)))

-- "a list of spans (four u32 each)"
unfoldable pub encode_list : List Span → List ℕ
unfolding flat_map
encode_list ss = flat_map span_bytes ss

-- "An answer has six u32 (boundaries, observations, sources, offsets of observations and sources, total length), then
-- from byte 24 the same records."
unfoldable pub answer_words : ℕ → ℕ → ℕ → List ℕ
answer_words b o s =
    b ∷ o ∷ s
    ∷ (answer_header_size + b * answer_boundary_size)
    ∷ (answer_header_size + b * answer_boundary_size + o * observation_size)
    ∷ (answer_header_size + b * answer_boundary_size + o * observation_size + s * source_size)
    ∷ []

unfoldable pub encode_answer : List Boundary → List ℕ
unfolding flat_map
encode_answer bs = flat_map u32_bytes (answer_words (length bs) (length (observations_of bs)) (length (sources_of bs))) ++ encode_boundaries bs
