-- The places and the boundaries of a job that passes.
use mathlib.Core.Path.{◌≡◌, sym, ◌∙◌, ap, subst}
use mathlib.Core.List.Memᴰ
use mathlib.Core.List.Permᴰ
use mathlib.Core.List.{List, map, Memᴰ}
use mathlib.Core.Option.{none}
use Prim.Native.Nat.{ℕ, ◌+◌, ◌*◌, ◌<◌}
use native.Mathlib.Omega.{arith}
use lib.ListN.{get_or}
use Rattle.lists.specs.Rows.{rows}
use Rattle.lists.proofs.Rows.{rows_at}
use Rattle.order.specs.Lists.{up_from}
use Rattle.order.proofs.Members.{perm-mem, map-ext}
use Rattle.order.proofs.Numbers.{up_mem}
use Rattle.format.specs.Values.{Boundary}
use Rattle.format.specs.Records.{boundary_at, observation_at}
use Rattle.format.specs.Header.{counts_at, header_at, boundaries_start, observations_start, sources_start}
use Rattle.format.specs.Decode.{boundary_records, observation_records, source_records, source_count, decode, job_with}
use Rattle.format.specs.Fits.{CountsAllowed, FormedWith}
use Rattle.format.specs.declared.header.Counts.{Counts}
use Rattle.format.specs.declared.header.Header.{Header}
use Rattle.format.specs.declared.records.BoundaryRecord.{BoundaryRecord}
use Rattle.format.specs.declared.records.ObservationRecord.{ObservationRecord}
use Rattle.checks.specs.Checks.{first_refusal}
use Rattle.checks_calls.specs.Refusals.{job_checks}
use Rattle.checks.proofs.Adding.{sum-field}
use Rattle.checks.proofs.Limits.{sections}
use Rattle.checks_calls.proofs.Passing.{job-passed}
use Rattle.checks_calls.proofs.Formed.{job-formed}
use Rattle.serial_merging.specs.Copies.{canon}
use Rattle.serial_merging.specs.Kept.{no_boundary}
use Rattle.answer_sources.specs.Laying.{sum_below, own_count, seen_count, cited_count}
use Rattle.answer_sources.specs.Placed.{boundary_of, boundary_rows, observation_rows, JobPlaces}
use Rattle.serial_merging.specs.Planned.{planned}
use Rattle.answer_sources.specs.Gathered.{PlacesOrder, copies_by, kept_by}
use Rattle.answer_encoding.specs.Answered.{kept_of}
use Rattle.answer_sources.proofs.Decoded.{decoded}

-- Of counts that add up.
module _ (s : List ℕ) (c : Counts) (f : FormedWith c s) (w : CountsAllowed c) where
  seen-adds : sum_below (seen_count s (boundaries_start c)) c.boundaries ≡ c.observations
  unfolding boundary_records
  seen-adds = sym (sum-field (λ (b : BoundaryRecord). b.observations) c.boundaries (λ k. boundary_at s (boundaries_start c + k * 40))) ∙ f.observations

  sources-add : sum_below (own_count s (boundaries_start c)) c.boundaries + sum_below (cited_count s (observations_start c)) c.observations ≡ c.sources
  unfolding boundary_records observation_records source_count
  sources-add =
      let a = sum-field (λ (b : BoundaryRecord). b.sources) c.boundaries (λ k. boundary_at s (boundaries_start c + k * 40)) in
      let b = sum-field (λ (o : ObservationRecord). o.sources) c.observations (λ k. observation_at s (observations_start c + k * 28)) in
      omega (arith, f.sources)

  counted-places : JobPlaces s (boundaries_start c) c.boundaries (observations_start c) c.observations (sources_start c) c.sources
  counted-places =
      let t = f.total in
      let e = ap (sum_below (cited_count s (observations_start c))) seen-adds in
      record {
        countable = record {
          boundaries-in = omega arith;
          boundary-limit = w.boundaries;
          observations-in = omega (arith, seen-adds);
          observations-fit = omega (arith, seen-adds);
          observation-limit = w.observations;
          source-limit = omega (arith, sources-add, w.sources);
        };
        observations-add = seen-adds;
        sources-in = omega arith;
        sources-add = sources-add;
      }

order_below : (order : List ℕ) (n i : ℕ) → PlacesOrder order n → Memᴰ i (up_from 0 n) → get_or order i 0 < n
order_below order n i p m = omega (arith, (up_mem 0 n (perm-mem (Permᴰ.symm p) (Memᴰ.map (λ j. get_or order j 0) m))).1)

module _ (s : List ℕ) (passed : first_refusal (job_checks s) ≡ none) where
  allowed : CountsAllowed (counts_at s 0)
  unfolding header_at
  allowed = (job-passed s passed).1.within

  pub counts-allowed : (h : Header) → h ≡ header_at s → CountsAllowed h.counts
  counts-allowed h e = subst (λ (x : Header). CountsAllowed x.counts) (sym e) (job-passed s passed).1.within

  abbrev counts : Counts
  counts = counts_at s 0

  pub counts-places : JobPlaces s (boundaries_start counts) counts.boundaries (observations_start counts) counts.observations (sources_start counts)
      counts.sources
  counts-places = counted-places s counts (job-formed s passed) allowed

  pub job-boundaries : (decode s).boundaries ≡ rows counts.boundaries
      (boundary_of (boundary_rows s (boundaries_start counts)) (observation_rows s (observations_start counts))
      (source_records s (sources_start counts) counts.sources))
  unfolding decode job_with
  job-boundaries = decoded s (boundaries_start counts) counts.boundaries counts.observations counts.sources
      (omega (arith, seen-adds s counts (job-formed s passed) allowed))

  -- The copies by rank are those of the job's boundaries.
  pub job-copies : (order : List ℕ) → PlacesOrder order counts.boundaries
      → copies_by (boundary_rows s (boundaries_start counts)) (observation_rows s (observations_start counts))
      (source_records s (sources_start counts) counts.sources) order counts.boundaries
      ≡ map (λ i. canon (get_or (decode s).boundaries (get_or order i 0) no_boundary)) (up_from 0 counts.boundaries)
  job-copies order p =
      map-ext _ _ (up_from 0 counts.boundaries)
      (λ i m.
      sym (ap (λ (l : List Boundary). canon (get_or l (get_or order i 0) no_boundary)) job-boundaries
      ∙ ap canon (rows_at counts.boundaries _ (get_or order i 0) no_boundary (order_below order counts.boundaries i p m))))

  -- The header's words are those that the counts give.
  pub record Words (at n ats m from count : ℕ) : Type 0 where
    pub at-is : at ≡ boundaries_start counts
    pub n-is : n ≡ counts.boundaries
    pub ats-is : ats ≡ observations_start counts
    pub m-is : m ≡ counts.observations
    pub from_is : from ≡ sources_start counts
    pub count-is : count ≡ counts.sources

  pub header-words : (h : Header) → h ≡ header_at s
      → Words h.offsets.boundaries h.counts.boundaries h.offsets.observations h.counts.observations h.offsets.sources h.counts.sources
  unfolding header_at
  header-words h e =
      let q = sections s (header_at s) (job-passed s passed).1 in
      record {
        at-is = ap (λ (x : Header). x.offsets.boundaries) e ∙ q.boundaries-at;
        n-is = ap (λ (x : Header). x.counts.boundaries) e;
        ats-is = ap (λ (x : Header). x.offsets.observations) e ∙ q.observations-at;
        m-is = ap (λ (x : Header). x.counts.observations) e;
        from_is = ap (λ (x : Header). x.offsets.sources) e ∙ q.sources-at;
        count-is = ap (λ (x : Header). x.counts.sources) e;
      }

  module _ {at n ats m from count : ℕ} (w : Words at n ats m from count) where
    pub job-places : JobPlaces s at n ats m from count
    job-places = rw (w.at-is, w.n-is, w.ats-is, w.m-is, w.from_is, w.count-is) counts-places

    pub kept-is : (order plan : List ℕ) → PlacesOrder order n
        → kept_by (boundary_rows s at) (observation_rows s ats) (source_records s from count) order plan n
        ≡ kept_of s order plan
    kept-is order plan p =
        (λ i. kept_by (boundary_rows s (w.at-is i)) (observation_rows s (w.ats-is i)) (source_records s (w.from_is i) (w.count-is i)) order plan (w.n-is i))
        ∙ ap (λ (l : List Boundary). planned l (λ i. get_or plan i 0)) (job-copies order (subst (λ (k : ℕ). PlacesOrder order k) w.n-is p))
