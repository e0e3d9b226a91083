-- The corridor's bytes stand for its values.
use mathlib.Core.Path.{◌≡◌, refl}
use mathlib.Core.List.{[], ◌∷◌}
use Rattle.wire.specs.Bytes.{number_at, bytes}
use Rattle.format.specs.Records.{base_at, boundary_at, source_at, span_bytes, source_bytes, boundary_bytes, observation_bytes}
use Rattle.format.specs.Header.{counts_at}
use Rattle.format.specs.Decode.{decode, job_with, base_records, boundary_records, observation_records, source_records, decode_boundaries}
use Rattle.format.specs.Encode.{encode_answer, answer_words, encode_boundaries, boundary_record, observation_record, observations_of, sources_of}
use Rattle.format.specs.Corridor.{two_crossings, four_cells, both_merged, corridor, corridor_answer}

pub corridor-job : decode corridor ≡ four_cells [] two_crossings
unfolding corridor decode job_with decode_boundaries number_at bytes counts_at base_records base_at boundary_records observation_records source_records
    boundary_at
    source_at
corridor-job = refl

pub corridor-bytes : encode_answer (both_merged ∷ []) ≡ corridor_answer
unfolding corridor_answer encode_answer answer_words encode_boundaries boundary_record observation_record observations_of sources_of boundary_bytes
    observation_bytes
    source_bytes span_bytes bytes
corridor-bytes = refl
