-- What `encode-decode` asks of bytes holds of all that is encoded.
use mathlib.Core.Path.{◌≡◌, refl, ◌∙◌, ap, ap₂}
use mathlib.Core.List.{List, map}
use Prim.Native.Nat.{◌+◌, ◌*◌, ◌≤◌}
use native.Mathlib.Nat.{mul-le-mul}
use native.Mathlib.Omega.{arith}
use lib.ListN.{length, length-map}
use Rattle.lists.specs.Rows.{sum, All}
use Rattle.lists.proofs.Each.{all_map, all-every, row-of}
use Rattle.format.specs.Sizes.{boundary_size}
use Rattle.format.specs.Values.{Boundary, Job}
use Rattle.format.specs.Records.{boundary_at}
use Rattle.format.specs.Header.{offsets_bytes, map_cells, boundaries_start, total_length, offsets_of}
use Rattle.format.specs.Encode.{ramp_record, boundary_record, observation_record, observations_of, encode_boundaries, counts_of, encode}
use Rattle.format.specs.Decode.{boundary_records, source_count}
use Rattle.format.specs.declared.header.Counts.{Counts}
use Rattle.format.specs.declared.records.BoundaryRecord.{BoundaryRecord}
use Rattle.format.specs.declared.records.ObservationRecord.{ObservationRecord}
use Rattle.format.specs.Fits.{OffsetsFit, CountsAllowed, JobFits, FormedWith, Formed}
use Rattle.format.proofs.Sections.{part-here, part-last}
use Rattle.format.proofs.RecordTrips.{offsets-trip}
use Rattle.format.proofs.Distribution.{records-add-up}
use Rattle.format.proofs.BoundaryTrips.{length-encode_boundaries, boundaries-records}
use Rattle.format.proofs.JobTrip.{length-encode, offsets-on, boundaries-on, counts-encode}

offsets-fit : (c : Counts) → CountsAllowed c → OffsetsFit (offsets_of c)
unfolding offsets_of
offsets-fit c a =
    let l : map_cells c ≤ 1024 * 1024 = mul-le-mul a.width a.height in
    omega arith

zero-written : (bs : List Boundary) → All (λ (r : BoundaryRecord). r.ramp.zero ≡ 0) (map boundary_record bs)
unfolding boundary_record ramp_record
zero-written bs = all_map boundary_record (all-every (λ b. refl) bs)

formed : (j : Job) → JobFits j → FormedWith (counts_of j) (encode j)
unfolding counts_of boundary_records
formed j f =
    let s = encode j in
    let c = counts_of j in
    let bs = j.boundaries in
    let l : length s ≡ total_length c = length-encode j f.cells in
    let r = boundaries-records s (boundaries_start c) bs f.boundaries (omega arith) (omega arith)
    (part-last s (boundaries_start c) _ (encode_boundaries bs) (length-encode_boundaries bs) (boundaries-on j f.cells)) in
    let a = records-add-up bs in
    let z : All (λ (r : BoundaryRecord). r.ramp.zero ≡ 0) (boundary_records s (boundaries_start c) c.boundaries) = rw r.0 (zero-written bs) in
    record {
      header = omega arith;
      offsets = offsets-trip.read s 24 (offsets_of c) (offsets-fit c f.counts)
          (part-here s 24 24 (offsets_bytes (offsets_of c)) _ (offsets-trip.size (offsets_of c)) (offsets-on j f.cells));
      total = l;
      observations = ap (λ (rs : List BoundaryRecord). sum (map (λ (r : BoundaryRecord). r.observations) rs)) r.0
          ∙ a.observations ∙ length-map (observations_of bs) observation_record;
      sources = ap₂ (λ (rs : List BoundaryRecord) (os : List ObservationRecord). sum (map (λ (r : BoundaryRecord). r.sources) rs) + source_count os) r.0
          r.1
          ∙ a.sources;
      zeros = λ k h. row-of c.boundaries (λ k. boundary_at s (boundaries_start c + k * boundary_size)) k z h;
    }

-- The bytes of a job within the limits are formed.
pub encode-formed : (j : Job) → JobFits j → Formed (encode j)
encode-formed j f = rw (counts-encode j f) (formed j f)
