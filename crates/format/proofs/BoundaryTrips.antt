-- The three sections that jobs and answers share: boundaries from bytes and back.
use mathlib.Core.Path.{◌≡◌, refl, sym, ◌∙◌, ap, ap₂}
use mathlib.Core.List.{List, ◌++◌, map, flat_map}
use Prim.Native.Nat.{ℕ, ◌+◌, ◌*◌, ◌≤◌, ◌<◌}
use native.Mathlib.Omega.{arith}
use lib.ListN.{length, length-append, length-map}
use Rattle.lists.specs.Rows.{rows, All, none, more}
use Rattle.lists.proofs.Rows.{length-rows, map_rows}
use Rattle.lists.proofs.Flat.{flat_map-map, length-pieces}
use Rattle.lists.proofs.Each.{all_append, all-flat_map, all-implies, all-rows}
use Rattle.wire.specs.Bytes.{part, AreBytes}
use Rattle.wire.proofs.Parts.{part_join}
use Rattle.format.specs.Sizes.{boundary_size, observation_size, source_size}
use Rattle.format.specs.Values.{Observation, Boundary}
use Rattle.format.specs.Records.{span_at, boundary_at, boundary_bytes, observation_at, observation_bytes, source_at, source_bytes}
use Rattle.format.specs.Encode.{boundary_record, observation_record, ramp_record, observations_of, sources_with, sources_of, encode_boundaries}
use Rattle.format.specs.Decode.{boundary_with, boundaries_with, boundary_records, observation_records, source_records, decode_boundaries}
use Rattle.format.specs.declared.records.Source.{Source}
use Rattle.format.specs.declared.records.BoundaryRecord.{BoundaryRecord}
use Rattle.format.specs.declared.records.ObservationRecord.{ObservationRecord}
use Rattle.format.specs.Fits.{IsWord, SourceFits, ObservationFits, BoundaryFits, BoundaryRecordFits, ObservationRecordFits}
use Rattle.format.proofs.Sections.{part-first, part-second}
use Rattle.format.proofs.RecordTrips.{boundary-trip, observation-trip, source-trip}
use Rattle.format.proofs.RowTrips.{rows-read, rows_write, rows_fit}
use Rattle.format.proofs.Distribution.{observed, own-and-observed, AddUp, boundaries-again, boundary-records, all-observations, all-sources}
use Rattle.format.proofs.Distribution.{map-boundaries_with, length-boundaries_with, boundaries-within}

-- How many bytes b boundaries, o observations and n sources have.
abbrev pub records_length : ℕ → ℕ → ℕ → ℕ
records_length b o n = b * boundary_size + (o * observation_size + n * source_size)

-- The three sections, record by record.
by-records : (bs : List Boundary) → encode_boundaries bs
    ≡ flat_map boundary_bytes (map boundary_record bs)
    ++ (flat_map observation_bytes (map observation_record (observations_of bs)) ++ flat_map source_bytes (sources_of bs))
unfolding encode_boundaries
by-records bs = simp flat_map-map

length-boundaries : (rs : List BoundaryRecord) → length (flat_map boundary_bytes rs) ≡ length rs * boundary_size
length-boundaries rs = length-pieces boundary_size boundary_bytes boundary-trip.size rs

length-observations : (os : List ObservationRecord) → length (flat_map observation_bytes os) ≡ length os * observation_size
length-observations os = length-pieces observation_size observation_bytes observation-trip.size os

length-sources : (ss : List Source) → length (flat_map source_bytes ss) ≡ length ss * source_size
length-sources ss = length-pieces source_size source_bytes source-trip.size ss

-- The three sections are as long as their records.
pub length-encode_boundaries : (bs : List Boundary)
    → length (encode_boundaries bs) ≡ records_length (length bs) (length (observations_of bs)) (length (sources_of bs))
length-encode_boundaries bs = rw by-records (simp (length-append, length-boundaries, length-observations, length-sources, length-map))

-- From place i on, b, o and n records of the three kinds are read as rs, os and ss.
abbrev pub Read : List ℕ → ℕ → ℕ → ℕ → ℕ → List BoundaryRecord → List ObservationRecord → List Source → Type 0
Read s i b o n rs os ss =
    (boundary_records s i b ≡ rs)
    × (observation_records s (i + b * boundary_size) o ≡ os)
    × (source_records s (i + b * boundary_size + o * observation_size) n ≡ ss)

-- Where the bytes of records stand, these are read.
records-read : (s : List ℕ) (i : ℕ) (rs : List BoundaryRecord) (os : List ObservationRecord) (ss : List Source) {b o n : ℕ}
    → length rs ≡ b → length os ≡ o → length ss ≡ n
    → All BoundaryRecordFits rs → All ObservationRecordFits os → All SourceFits ss
    → part s i (records_length b o n) ≡ flat_map boundary_bytes rs ++ (flat_map observation_bytes os ++ flat_map source_bytes ss)
    → Read s i b o n rs os ss
unfolding boundary_records observation_records source_records
records-read s i rs os ss {b} {o} {n} lb lo ln fb fo fs e =
    let j = i + b * boundary_size in
    let x = flat_map boundary_bytes rs in
    let y = flat_map observation_bytes os in
    let z = flat_map source_bytes ss in
    let lx : length x ≡ b * boundary_size = length-boundaries rs ∙ ap (λ (k : ℕ). k * boundary_size) lb in
    let ly : length y ≡ o * observation_size = length-observations os ∙ ap (λ (k : ℕ). k * observation_size) lo in
    let lz : length z ≡ n * source_size = length-sources ss ∙ ap (λ (k : ℕ). k * source_size) ln in
    let later : part s j (o * observation_size + n * source_size) ≡ y ++ z
    = part-second s i (b * boundary_size) (o * observation_size + n * source_size) x (y ++ z) lx (length-append y z ∙ ap₂ ◌+◌ ly lz) e in (
      rows-read boundary-trip fb b lb s i (part-first s i (b * boundary_size) (o * observation_size + n * source_size) x (y ++ z) lx e),
      rows-read observation-trip fo o lo s j (part-first s j (o * observation_size) (n * source_size) y z ly later),
      rows-read source-trip fs n ln s (j + o * observation_size) (part-second s j (o * observation_size) (n * source_size) y z ly lz later),
    )

-- Values within the limits have records that fit.
observations-fit : {os : List Observation} → All ObservationFits os → IsWord (length (observed os)) → All ObservationRecordFits (map observation_record os)
unfolding observation_record flat_map
observations-fit none l = none
observations-fit (more {x} {xs} p h) l =
    let e : length (x.sources ++ observed xs) ≡ length x.sources + length (observed xs) = length-append x.sources (observed xs) in
    more {x = observation_record x} (record { ends = p.ends; bits = p.bits; sources = omega arith }) (observations-fit h (omega arith))

boundaries-fit : {bs : List Boundary} → All BoundaryFits bs → IsWord (length (observations_of bs)) → IsWord (length (sources_of bs))
    → All BoundaryRecordFits (map boundary_record bs)
unfolding boundary_record ramp_record observations_of sources_of sources_with flat_map
boundaries-fit none m l = none
boundaries-fit (more {x} {xs} p h) m l =
    let e : length (x.observations ++ observations_of xs) ≡ length x.observations + length (observations_of xs) =
    length-append x.observations (observations_of xs) in
    let f : length (sources_with x ++ sources_of xs) ≡ length (sources_with x) + length (sources_of xs) = length-append (sources_with x) (sources_of xs) in
    let g : length (sources_with x) ≡ length x.sources + length (observed x.observations) = length-append x.sources (observed x.observations) in
    more {x = boundary_record x}
    (record {
      ends = p.ends;
      bits = p.bits;
      sources = omega arith;
      observations = omega arith;
      ramp = record { end = p.ramp.end; lower = p.ramp.lower; upper = p.ramp.upper; zero = omega arith; id = p.ramp.id };
    })
    (boundaries-fit h (omega arith) (omega arith))

all-observations-fit : {bs : List Boundary} → All BoundaryFits bs → All ObservationFits (observations_of bs)
unfolding observations_of
all-observations-fit h = all-flat_map (λ (b : Boundary). b.observations) (all-implies (λ b f. f.observations) h)

all-sources-fit : {bs : List Boundary} → All BoundaryFits bs → All SourceFits (sources_of bs)
unfolding sources_of sources_with
all-sources-fit h =
    all-flat_map sources_with
    (all-implies (λ b f. all_append f.sources (all-flat_map (λ (o : Observation). o.sources) (all-implies (λ o g. g.sources) f.observations))) h)

-- Where the bytes of boundaries stand:
module _ (s : List ℕ) (i : ℕ) (bs : List Boundary)
    (h : All BoundaryFits bs) (m : IsWord (length (observations_of bs))) (l : IsWord (length (sources_of bs)))
    (e : part s i (records_length (length bs) (length (observations_of bs)) (length (sources_of bs))) ≡ encode_boundaries bs) where
  -- Their records are read.
  pub boundaries-records : Read s i (length bs) (length (observations_of bs)) (length (sources_of bs)) (map boundary_record bs)
      (map observation_record (observations_of bs)) (sources_of bs)
  boundaries-records =
      records-read s i (map boundary_record bs) (map observation_record (observations_of bs)) (sources_of bs)
      (length-map bs boundary_record) (length-map (observations_of bs) observation_record) refl
      (boundaries-fit h m l)
      (observations-fit (all-observations-fit h) (omega (arith, own-and-observed bs)))
      (all-sources-fit h)
      (e ∙ by-records bs)

  -- They are read.
  pub boundaries-read : decode_boundaries s i (length bs) (length (observations_of bs)) (length (sources_of bs)) ≡ bs
  unfolding decode_boundaries
  boundaries-read =
      let r = boundaries-records in
      let again : decode_boundaries s i (length bs) (length (observations_of bs)) (length (sources_of bs)) ≡ boundaries_with (map boundary_record bs)
      (map observation_record (observations_of bs)) (sources_of bs)
      = λ k. boundaries_with (r.0 k) (r.1 k) (r.2 k) in
      again ∙ boundaries-again bs

-- Where records add up:
module _ (s : List ℕ) (i b o n : ℕ)
    (adds : AddUp (boundary_records s i b) (observation_records s (i + b * boundary_size) o)
    (source_records s (i + b * boundary_size + o * observation_size) n)) where
  -- The bytes of the boundaries that are read are those that stand there.
  pub boundaries-write : AreBytes s → i + records_length b o n ≤ length s
      → ((k : ℕ) → k < b → (boundary_at s (i + k * boundary_size)).ramp.zero ≡ 0)
      → encode_boundaries (decode_boundaries s i b o n) ≡ part s i (records_length b o n)
  unfolding decode_boundaries boundary_records observation_records source_records
  boundaries-write h l z =
      let rs = boundary_records s i b in
      let os = observation_records s (i + b * boundary_size) o in
      let ss = source_records s (i + b * boundary_size + o * observation_size) n in
      by-records (boundaries_with rs os ss)
      ∙ ap₂ ◌++◌
      (ap (flat_map boundary_bytes) (boundary-records rs os ss adds (all-rows b (λ k. boundary_at s (i + k * boundary_size)) z))
      ∙ rows_write boundary-trip b s i h (omega arith))
      (ap₂ ◌++◌
      (ap (flat_map observation_bytes) (all-observations rs os ss adds) ∙ rows_write observation-trip o s (i + b * boundary_size) h (omega arith))
      (ap (flat_map source_bytes) (all-sources rs os ss adds) ∙ rows_write source-trip n s (i + b * boundary_size + o * observation_size) h (omega arith))
      ∙ sym (part_join s (i + b * boundary_size) (o * observation_size) (n * source_size)))
      ∙ sym (part_join s i (b * boundary_size) (o * observation_size + n * source_size))

  -- As many observations are read as the count says,
  pub observations-decoded : length (observations_of (decode_boundaries s i b o n)) ≡ o
  unfolding decode_boundaries observation_records
  observations-decoded =
      sym (length-map (observations_of (decode_boundaries s i b o n)) observation_record)
      ∙ ap length (all-observations (boundary_records s i b) (observation_records s (i + b * boundary_size) o)
      (source_records s (i + b * boundary_size + o * observation_size) n) adds)
      ∙ length-rows o (λ k. observation_at s (i + b * boundary_size + k * observation_size))

  -- and as many sources.
  pub sources-decoded : length (sources_of (decode_boundaries s i b o n)) ≡ n
  unfolding decode_boundaries source_records
  sources-decoded =
      ap length (all-sources (boundary_records s i b) (observation_records s (i + b * boundary_size) o)
      (source_records s (i + b * boundary_size + o * observation_size) n) adds)
      ∙ length-rows n (λ k. source_at s (i + b * boundary_size + o * observation_size + k * source_size))

-- As many boundaries are read as the count says.
pub boundaries-decoded : (s : List ℕ) (i b o n : ℕ) → length (decode_boundaries s i b o n) ≡ b
unfolding decode_boundaries boundary_records
boundaries-decoded s i b o n =
    length-boundaries_with (boundary_records s i b) (observation_records s (i + b * boundary_size) o)
    (source_records s (i + b * boundary_size + o * observation_size) n)
    ∙ length-rows b (λ k. boundary_at s (i + k * boundary_size))

-- Boundaries that are read are within the limits.
pub decoded-within : (s : List ℕ) (i b o n : ℕ) → AreBytes s → i + records_length b o n ≤ length s → All BoundaryFits (decode_boundaries s i b o n)
unfolding decode_boundaries boundary_records observation_records source_records
decoded-within s i b o n h l =
    boundaries-within
    (rows_fit boundary-trip b s i h (omega arith))
    (rows_fit observation-trip o s (i + b * boundary_size) h (omega arith))
    (rows_fit source-trip n s (i + b * boundary_size + o * observation_size) h (omega arith))

-- The ends of the boundaries that are read stand in their records.
pub decoded-ends : (s : List ℕ) (i b o n : ℕ) → map (λ (r : Boundary). r.ends) (decode_boundaries s i b o n) ≡ rows b (λ k. span_at s (i + k * boundary_size))
unfolding decode_boundaries boundary_records boundary_with boundary_at
decoded-ends s i b o n =
    map-boundaries_with (λ (r : Boundary). r.ends) (λ (r : BoundaryRecord). r.ends) (λ r os ss. refl) (boundary_records s i b) _ _
    ∙ map_rows (λ (r : BoundaryRecord). r.ends) b (λ k. boundary_at s (i + k * boundary_size))
