-- Jobs: bytes from a job and back.
use mathlib.Core.Path.{◌≡◌, refl, sym, ◌∙◌, ap, ap₂}
use mathlib.Core.List.{List, ◌++◌, map}
use Prim.Native.Nat.{ℕ, ◌+◌, ◌*◌}
use native.Mathlib.Omega.{arith}
use lib.ListN.{length, drop, length-append, length-map}
use Rattle.lists.proofs.Rows.{length-rows}
use Rattle.wire.specs.Bytes.{part, AreBytes}
use Rattle.wire.proofs.Parts.{part_join, part-whole, length_part}
use Rattle.format.specs.Sizes.{header_size, base_size}
use Rattle.format.specs.Values.{Job}
use Rattle.format.specs.Header.{counts_at, counts_bytes, offsets_bytes, map_cells, bases_start, boundaries_start, observations_start, sources_start}
use Rattle.format.specs.Header.{total_length}
use Rattle.format.specs.Header.{offsets_of}
use Rattle.format.specs.Encode.{encode_boundaries, counts_of, encode}
use Rattle.format.specs.Decode.{base_of, boundary_records, observation_records, source_records, base_records, decode_boundaries, job_with, decode}
use Rattle.format.specs.declared.header.Counts.{Counts}
use Rattle.format.specs.Fits.{CountsFit, CountsAllowed, JobFits, Formed}
use Rattle.format.proofs.Sections.{part-here, drop_here, part-last}
use Rattle.format.proofs.RecordTrips.{counts-trip, offsets-trip}
use Rattle.format.proofs.BaseTrips.{base_section, length-base_section, bases-read, bases-write, bases-within}
use Rattle.format.proofs.Distribution.{AddUp}
use Rattle.format.proofs.BoundaryTrips.{records_length, length-encode_boundaries, boundaries-read, boundaries-write, observations-decoded, sources-decoded}
use Rattle.format.proofs.BoundaryTrips.{boundaries-decoded, decoded-within}

-- A job is as long as its counts give.
pub length-encode : (j : Job) → length j.cells ≡ j.width * j.height → length (encode j) ≡ total_length (counts_of j)
unfolding encode counts_of
length-encode j e =
    simp (length-append, counts-trip.size, offsets-trip.size, length-base_section, length-encode_boundaries, e) (omega arith)

-- What stands in a job that was written from each section on.
module _ (j : Job) (cells : length j.cells ≡ j.width * j.height) where
  pub offsets-on : drop 24 (encode j) ≡ offsets_bytes (offsets_of (counts_of j)) ++ (j.cells ++ (base_section j.bases ++ encode_boundaries j.boundaries))
  unfolding encode
  offsets-on = drop_here (encode j) 0 24 (counts_bytes (counts_of j)) _ (counts-trip.size (counts_of j)) refl

  pub cells-on : drop header_size (encode j) ≡ j.cells ++ (base_section j.bases ++ encode_boundaries j.boundaries)
  cells-on = drop_here (encode j) 24 24 (offsets_bytes (offsets_of (counts_of j))) _ (offsets-trip.size (offsets_of (counts_of j))) offsets-on

  pub bases-on : drop (bases_start (counts_of j)) (encode j) ≡ base_section j.bases ++ encode_boundaries j.boundaries
  unfolding counts_of
  bases-on = drop_here (encode j) header_size (j.width * j.height) j.cells _ cells cells-on

  pub boundaries-on : drop (boundaries_start (counts_of j)) (encode j) ≡ encode_boundaries j.boundaries
  unfolding counts_of
  boundaries-on = drop_here (encode j) (bases_start (counts_of j)) (length j.bases * base_size) (base_section j.bases) _ (length-base_section j.bases)
      bases-on

counts-fit : (c : Counts) → CountsAllowed c → CountsFit c
counts-fit c a = omega arith

-- The counts of a job that was written are read back.
pub counts-encode : (j : Job) → JobFits j → counts_at (encode j) 0 ≡ counts_of j
unfolding encode
counts-encode j f = counts-trip.read (encode j) 0 (counts_of j) (counts-fit (counts_of j) f.counts)
    (part-here (encode j) 0 24 (counts_bytes (counts_of j)) _ (counts-trip.size (counts_of j)) refl)

-- A job that was written is read back.
pub decode-encode : (j : Job) → JobFits j → decode (encode j) ≡ j
unfolding decode job_with counts_of
decode-encode j f =
    let s = encode j in
    let c = counts_of j in
    let e1 : part s header_size (map_cells c) ≡ j.cells = part-here s header_size (map_cells c) j.cells _ f.cells (cells-on j f.cells) in
    let e2 : map base_of (base_records s (bases_start c) c.bases) ≡ j.bases
    = bases-read s (bases_start c) j.bases f.bases
    (part-here s (bases_start c) (c.bases * base_size) _ _ (length-base_section j.bases) (bases-on j f.cells)) in
    let e3 : decode_boundaries s (boundaries_start c) c.boundaries c.observations c.sources ≡ j.boundaries
    = boundaries-read s (boundaries_start c) j.boundaries f.boundaries (omega arith) (omega arith)
    (part-last s (boundaries_start c) _ (encode_boundaries j.boundaries) (length-encode_boundaries j.boundaries) (boundaries-on j f.cells)) in
    let e : job_with c s ≡ j = λ k. record { width = j.width; height = j.height; cells = e1 k; bases = e2 k; boundaries = e3 k } in
    ap (λ (c : Counts). job_with c s) (counts-encode j f) ∙ e

module _ (s : List ℕ) (f : Formed s) where
  -- The counts add up.
  adds : AddUp (boundary_records s (boundaries_start (counts_at s 0)) (counts_at s 0).boundaries)
      (observation_records s (observations_start (counts_at s 0)) (counts_at s 0).observations)
      (source_records s (sources_start (counts_at s 0)) (counts_at s 0).sources)
  unfolding observation_records source_records
  adds = record {
    observations = f.observations ∙ sym (length-rows (counts_at s 0).observations _);
    sources = f.sources ∙ sym (length-rows (counts_at s 0).sources _);
  }

  -- A job that is read has the header's counts.
  pub counts-decode : counts_of (decode s) ≡ counts_at s 0
  unfolding counts_of decode job_with base_records
  counts-decode =
      let c = counts_at s 0 in
      let e1 : length (map base_of (base_records s (bases_start c) c.bases)) ≡ c.bases = length-map (base_records s (bases_start c) c.bases) base_of
      ∙ length-rows c.bases _ in
      let e2 = boundaries-decoded s (boundaries_start c) c.boundaries c.observations c.sources in
      let e3 = observations-decoded s (boundaries_start c) c.boundaries c.observations c.sources adds in
      let e4 = sources-decoded s (boundaries_start c) c.boundaries c.observations c.sources adds in
      λ k. record { width = c.width; height = c.height; bases = e1 k; boundaries = e2 k; observations = e3 k; sources = e4 k }

-- A job's bytes that were read are written as they stood.
pub encode-decode : (s : List ℕ) → AreBytes s → Formed s → encode (decode s) ≡ s
unfolding encode decode job_with
encode-decode s h f =
    let c = counts_at s 0 in
    let l : length s ≡ total_length c = f.total in
    let r = records_length c.boundaries c.observations c.sources in
    let e0 : counts_of (decode s) ≡ c = counts-decode s f in
    let e1 : counts_bytes (counts_of (decode s)) ≡ part s 0 24 = ap counts_bytes e0 ∙ counts-trip.write s 0 h (omega arith) in
    let e2 : offsets_bytes (offsets_of (counts_of (decode s))) ≡ part s 24 24
    = ap (λ (d : Counts). offsets_bytes (offsets_of d)) e0 ∙ ap offsets_bytes (sym f.offsets) ∙ offsets-trip.write s 24 h (omega arith) in
    let e3 = bases-write s (bases_start c) c.bases h (omega arith) in
    let e4 = boundaries-write s (boundaries_start c) c.boundaries c.observations c.sources (adds s f) h (omega arith) f.zeros in
    let n : 24 + (24 + (map_cells c + (c.bases * base_size + r))) ≡ length s = omega arith in
    ap₂ ◌++◌ e1
    (ap₂ ◌++◌ e2
    (ap (λ (t : List ℕ). part s header_size (map_cells c) ++ t)
    (ap₂ ◌++◌ e3 e4
    ∙ sym (part_join s (bases_start c) (c.bases * base_size) r))
    ∙ sym (part_join s header_size (map_cells c) (c.bases * base_size + r)))
    ∙ sym (part_join s 24 24 (map_cells c + (c.bases * base_size + r))))
    ∙ sym (part_join s 0 24 (24 + (map_cells c + (c.bases * base_size + r))))
    ∙ ap (part s 0) n
    ∙ part-whole s

-- A job that is read from bytes with allowed counts is within the limits.
pub decode-fits : (s : List ℕ) → AreBytes s → Formed s → CountsAllowed (counts_at s 0) → JobFits (decode s)
unfolding decode job_with
decode-fits s h f a =
    let c = counts_at s 0 in
    let l : length s ≡ total_length c = f.total in
    record {
      counts = rw (counts-decode s f) a;
      cells = length_part s header_size (map_cells c) (omega arith);
      bases = bases-within s (bases_start c) c.bases h (omega arith);
      boundaries = decoded-within s (boundaries_start c) c.boundaries c.observations c.sources h (omega arith);
    }
