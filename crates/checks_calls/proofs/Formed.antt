-- A job that passes 1 to 10 is formed, so that encoding what it decodes to gives its bytes again.
use mathlib.Core.Path.{◌≡◌}
use mathlib.Core.Bool.{false, not}
use mathlib.Core.List.{List, ◌∷◌, ◌++◌, map}
use mathlib.Core.Option.{none}
use Prim.Native.Nat.{ℕ, ◌+◌, ◌*◌, ◌≤◌, ◌<◌}
use native.Mathlib.Omega.{arith}
use borrow.Author.Tests.{eqb-true, not-false}
use lib.Dec.{ltb, eqb}
use Rattle.lists.specs.Rows.{rows, sum}
use Rattle.lists.proofs.Rows.{map_rows, sum-prefix}
use Rattle.wire.specs.Bytes.{AreBytes}
use Rattle.format.specs.Sizes.{boundary_size, observation_size}
use Rattle.format.specs.Records.{boundary_at, observation_at}
use Rattle.format.specs.Header.{counts_at, header_at, boundaries_start, observations_start, map_cells, bases_start}
use Rattle.format.specs.Decode.{decode, boundary_records, observation_records, observation_total, own_total, source_count}
use Rattle.format.specs.Encode.{encode}
use Rattle.format.specs.Fits.{Formed}
use Rattle.format.specs.declared.header.Counts.{Counts}
use Rattle.format.specs.declared.records.RampRecord.{RampRecord}
use Rattle.format.specs.declared.records.BoundaryRecord.{BoundaryRecord}
use Rattle.format.specs.declared.records.ObservationRecord.{ObservationRecord}
use Rattle.format.proofs.JobTrip.{encode-decode}
use Rattle.checks.specs.Numbers.{bad_sums}
use Rattle.checks.specs.Checks.{check, first_refusal, each}
use Rattle.checks.specs.Faults.{ramp_fault}
use Rattle.checks.specs.Single.{sums_fault, cell_check, base_check, ramp_check, width_check}
use Rattle.checks_calls.specs.Refusals.{layout_checks, record_checks, job_checks}
use Rattle.order.proofs.Bools.{and_parts, or_parts}
use Rattle.checks.proofs.Firsts.{none_right, none_left, none-head, each_none}
use Rattle.checks_calls.proofs.Passing.{job-passed}

zero-byte : (r : RampRecord) → ramp_fault r ≡ false → r.zero ≡ 0
zero-byte r e =
    let a = or_parts (ltb 2 r.end) _ e in
    let b = or_parts (not (eqb r.zero 0)) _ a.1 in
    eqb-true r.zero 0 (not-false _ b.0)

-- What checks 8 and 9 leave.
module _ (s : List ℕ) (c : Counts) (e : first_refusal (record_checks s c) ≡ none) where
  after-bases : first_refusal
      (check (sums_fault s c) bad_sums 0 ∷ (each c.boundaries (ramp_check s (boundaries_start c)) ++ each c.boundaries (width_check s (boundaries_start c))))
      ≡ none
  unfolding record_checks
  after-bases = none_right (each c.bases (base_check s c.width c.height (bases_start c))) _ (none_right (each (map_cells c) (cell_check s)) _ e)

  sums-right : (observation_total (boundary_records s (boundaries_start c) c.boundaries) ≡ c.observations)
      × (own_total (boundary_records s (boundaries_start c) c.boundaries) + source_count
      (observation_records s (observations_start c) c.observations) ≡ c.sources)
  unfolding sums_fault
  sums-right =
      let a = none-head _ _ after-bases in
      let b = and_parts _ _ (not-false _ a.0) in
      (eqb-true _ _ b.0, eqb-true _ _ b.1)

  zeros-right : (k : ℕ) → k < c.boundaries → (boundary_at s (boundaries_start c + k * boundary_size)).ramp.zero ≡ 0
  unfolding ramp_check
  zeros-right k h =
      let a = none-head _ _ after-bases in
      let b = each_none (ramp_check s (boundaries_start c)) c.boundaries k h (none_left _ _ a.1) in
      zero-byte (boundary_at s (boundaries_start c + k * boundary_size)).ramp (none-head _ _ b).0

pub job-formed : (s : List ℕ) → first_refusal (job_checks s) ≡ none → Formed s
unfolding job_checks header_at
job-formed s e =
    let p = job-passed s e in
    let r = none_right (layout_checks s) (record_checks s (counts_at s 0)) e in
    let sums = sums-right s (counts_at s 0) r in
    record {
      header = p.0;
      offsets = p.1.offsets-right;
      total = p.1.whole;
      observations = sums.0;
      sources = sums.1;
      zeros = zeros-right s (counts_at s 0) r;
    }

-- "encode after decode the identity on every job that passes"
pub passed-again : (s : List ℕ) → AreBytes s → first_refusal (job_checks s) ≡ none → encode (decode s) ≡ s
passed-again s a e = encode-decode s a (job-formed s e)

-- The counts of the first boundaries and of the first observations stay within the header's.
module _ (s : List ℕ) (e : first_refusal (job_checks s) ≡ none) where
  field-prefix : {A : Type 0} (g : A → ℕ) (f : ℕ → A) (k n : ℕ) → k ≤ n → sum (map g (rows k f)) ≤ sum (map g (rows n f))
  field-prefix g f k n h = rw (map_rows g k f, map_rows g n f) (sum-prefix k n (λ i. g (f i)) h)

  pub observations-before : (k : ℕ) → k ≤ (counts_at s 0).boundaries
      → observation_total (boundary_records s (boundaries_start (counts_at s 0)) k) ≤ (counts_at s 0).observations
  unfolding boundary_records
  observations-before k h = omega (
    arith,
    (job-formed s e).observations,
    field-prefix (λ (b : BoundaryRecord). b.observations) (λ i. boundary_at s (boundaries_start (counts_at s 0) + i * boundary_size)) k
        (counts_at s 0).boundaries h,
  )

  pub sources-before : (k m : ℕ) → k ≤ (counts_at s 0).boundaries → m ≤ (counts_at s 0).observations
      → own_total (boundary_records s (boundaries_start (counts_at s 0)) k)
      + source_count (observation_records s (observations_start (counts_at s 0)) m) ≤ (counts_at s 0).sources
  unfolding boundary_records observation_records source_count
  sources-before k m h l =
      omega (
        arith,
        (job-formed s e).sources,
        field-prefix (λ (b : BoundaryRecord). b.sources)
            (λ i. boundary_at s (boundaries_start (counts_at s 0) + i * boundary_size)) k (counts_at s 0).boundaries
            h,
        field-prefix (λ (o : ObservationRecord). o.sources) (λ i. observation_at s (observations_start (counts_at s 0) + i * observation_size)) m
            (counts_at s 0).observations l,
      )
