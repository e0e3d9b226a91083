-- What the driver's partition function leaves.
use Rattle.std.specs.Prelude.{◌≡◌, ℕ, ◌+◌, ◌*◌, ◌≤◌, ◌<◌, length, get_or}
use mathlib.Core.List.{List, [], ◌∷◌, ◌++◌, flat_map}
use Rattle.std.proofs.Math.Option.{none}
use Rattle.areas.specs.Words.{labelled}
use Rattle.wire.specs.Bytes.{words, splice}
use Rattle.position.specs.declared.Span.{Span}
use Rattle.graph.specs.Records.{Record, record_in}
use Rattle.grid.specs.Cells.{Grid}
use Rattle.format.specs.Header.{counts_at}
use Rattle.format.specs.Decode.{decode}
use Rattle.areas.specs.Areas.{area_count}
use Rattle.areas.specs.Assessments.{assess, records}
use Rattle.checks.specs.Numbers.{too_many_pairs, answer_too_short}
use Rattle.checks.specs.Checks.{first_refusal}
use Rattle.checks_calls.specs.Refusals.{reduce_checks}
use Rattle.results.specs.Rules.{grid_of}
use Rattle.results.specs.Results.{work_size, labels_of, own_ends}
use Rattle.results.specs.Returns.{FirstAnswer}
use Rattle.probe.specs.Writing.{blocks}

-- two counts and a record in little-endian words
abbrev pub count_bytes : ℕ → ℕ → List ℕ
count_bytes removed separated = words (removed ∷ separated ∷ [])

abbrev pub record_bytes : Record → List ℕ
record_bytes r = words (r.owner ∷ r.left ∷ r.right ∷ [])

-- the number of areas and that of the region pairs; of each span, how many steps it removes and how many of them have different labels; each record
unfoldable pub partition_bytes : List ℕ → Grid → List Span → List ℕ
unfolding area_count records assess words flat_map
partition_bytes dirs g ss =
    words (area_count dirs g ss ∷ length (records dirs g ss) ∷ [])
    ++ (flat_map (λ s. count_bytes (assess dirs g ss s).removed (assess dirs g ss s).separated) ss ++ flat_map record_bytes (records dirs g ss))

-- the same of numbers and arrays
abbrev pub counts_from : List ℕ → List ℕ → ℕ → List ℕ
counts_from removed separated n = blocks n (λ i. count_bytes (get_or removed i 0) (get_or separated i 0))

abbrev pub records_from : List ℕ → List ℕ → List ℕ → ℕ → List ℕ
records_from owners lefts rights n = blocks n (λ k. record_bytes (record_in owners lefts rights k))

abbrev pub held_bytes : ℕ → ℕ → ℕ → List ℕ → List ℕ → List ℕ → List ℕ → List ℕ → List ℕ
held_bytes areas pairs count removed separated owners lefts rights =
    words (areas ∷ pairs ∷ []) ++ (counts_from removed separated count ++ records_from owners lefts rights pairs)

-- how many bytes these are
abbrev pub bytes_of : ℕ → ℕ → ℕ
bytes_of count pairs = 8 + 8 * count + 12 * pairs

-- over 4,096 pairs; an out that is too short, with the bytes that it should have; or the bytes, written at its start
pub data PartitionBytes (count pairs : ℕ) (bytes out out_end : List ℕ) (number detail : ℕ) : Type 0 where
  many : 4096 < pairs → number ≡ too_many_pairs → detail ≡ 0 → out_end ≡ out → PartitionBytes count pairs bytes out out_end number detail
  short : pairs ≤ 4096 → length out < bytes_of count pairs → number ≡ answer_too_short → detail ≡ bytes_of count pairs → out_end ≡ out
      → PartitionBytes count pairs bytes out out_end number detail
  written : pairs ≤ 4096 → bytes_of count pairs ≤ length out → number ≡ 0 → detail ≡ bytes_of count pairs → out_end ≡ splice out 0 bytes
      → PartitionBytes count pairs bytes out out_end number detail

-- the areas by the boundaries' own ends are labelled, and what the partition found is told
pub record PartitionLeft (dirs s work out work_end out_end : List ℕ) (number detail : ℕ) : Type 0 where
  pub work-is : work_end ≡ labelled (labels_of dirs (decode s) (own_ends (decode s))) work
  pub told : PartitionBytes (counts_at s 0).boundaries (length (records dirs (grid_of (decode s)) (own_ends (decode s))))
      (partition_bytes dirs (grid_of (decode s)) (own_ends (decode s))) out out_end number detail

-- a refusal of the checks, or of work under ten bytes a cell, with nothing written; or the partition
pub data PartitionAnswer (dirs s work out work_end out_end : List ℕ) (number detail : ℕ) : Type 0 where
  declined : 0 < number → FirstAnswer (first_refusal (reduce_checks s)) (work_size (decode s)) (length work) number detail → work_end ≡ work → out_end ≡ out
      → PartitionAnswer dirs s work out work_end out_end number detail
  parted : first_refusal (reduce_checks s) ≡ none → work_size (decode s) ≤ length work → PartitionLeft dirs s work out work_end out_end number detail
      → PartitionAnswer dirs s work out work_end out_end number detail
