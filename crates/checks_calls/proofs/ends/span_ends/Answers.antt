use mathlib.Core.Path.{◌≡◌, refl, sym, ◌∙◌, ap}
use mathlib.Core.Bool.{true, false, ◌&&◌}
use mathlib.Core.List.{List, []}
use Prim.Native.Nat.{ℕ, ◌+◌, ◌*◌, ◌-◌}
use native.Mathlib.Omega.{arith}
use borrow.Author.Tests.{eq-eqb, ne_eqb}
use lib.Dec.{ltb}
use lib.ListN.{take, drop}
use Rattle.wire.specs.Bytes.{part}
use Rattle.format.specs.Header.{header_at, boundaries_start}
use Rattle.format.specs.declared.header.Header.{Header}
use Rattle.checks.specs.Checks.{first_refusal}
use Rattle.checks.specs.Single.{span_count}
use Rattle.checks_calls.specs.Refusals.{reduce_checks, by_list_checks}
use Rattle.checks_calls.specs.SpanEnds.{job_ends, list_ends, span_ends, job_place, list_place, SpanPart}
use Rattle.checks.specs.Verdict.{passes}
use Rattle.checks_calls.proofs.SpanParts.{job-part, list-part}
use Rattle.checks_calls.proofs.ends.span_ends.Goals as goal

-- Each of the four answers is the part that the call tells of, and where it stands; k is the index i as the code widens it.
module _ {s l : List ℕ} {which i k : ℕ} {job list shown : ℕ × ℕ} (w : which ≡ 0) (e : k ≡ i) (block : shown.0 ≡ job.0) where
  from-job : {bytes : List ℕ} → bytes ≡ span_ends s l which i → shown.1 ≡ job.1 + job_place s i → SpanPart s l which i job list shown bytes
  from-job b p = record {
    bytes-are = b;
    job-block = λ _. block;
    job-place = λ _. p;
    list-block = λ no. absurd (no w);
    list-place = λ no. absurd (no w);
  }

  of-job : {at : ℕ} → at ≡ (header_at s).offsets.boundaries
      → passes (first_refusal (reduce_checks s)) && ltb k (header_at s).counts.boundaries ≡ true → shown.1 ≡ at + k * 40 + job.1
      → SpanPart s l which i job list shown (take (at + k * 40 + 16 - (at + k * 40)) (drop (at + k * 40) s))
  unfolding span_ends job_ends job_place part
  of-job {at} f t p =
      let n : at + k * 40 + 16 - (at + k * 40) ≡ 16 = omega arith in
      let b : at ≡ boundaries_start (header_at s).counts = f ∙ (job-part s k t).start in
      from-job (rw (sym e, eq-eqb _ _ w, t, n, b)) (rw (sym e, t) (omega arith))

  not-job : passes (first_refusal (reduce_checks s)) && ltb k (header_at s).counts.boundaries ≡ false → shown.1 ≡ 0 + job.1
      → SpanPart s l which i job list shown []
  unfolding span_ends job_ends job_place
  not-job t p = from-job (rw (sym e, eq-eqb _ _ w, t)) (rw (sym e, t) (omega arith))

module _ {s l : List ℕ} {which i k : ℕ} {job list shown : ℕ × ℕ} (w : which ≡ 0 → ⊥) (e : k ≡ i) (block : shown.0 ≡ list.0) where
  from_list : {bytes : List ℕ} → bytes ≡ span_ends s l which i → shown.1 ≡ list.1 + list_place s l i → SpanPart s l which i job list shown bytes
  from_list b p = record {
    bytes-are = b;
    job-block = λ is. absurd (w is);
    job-place = λ is. absurd (w is);
    list-block = λ _. block;
    list-place = λ _. p;
  }

  of-list : passes (first_refusal (by_list_checks s l)) && ltb k (span_count l) ≡ true → shown.1 ≡ k * 16 + list.1
      → SpanPart s l which i job list shown (take (k * 16 + 16 - k * 16) (drop (k * 16) l))
  unfolding span_ends list_ends list_place part
  of-list t p =
      let n : k * 16 + 16 - k * 16 ≡ 16 = omega arith in
      from_list (rw (sym e, ne_eqb _ _ w, t, n)) (rw (sym e, t) (omega arith))

  not-list : passes (first_refusal (by_list_checks s l)) && ltb k (span_count l) ≡ false → shown.1 ≡ 0 + list.1 → SpanPart s l which i job list shown []
  unfolding span_ends list_ends list_place
  not-list t p = from_list (rw (sym e, ne_eqb _ _ w, t)) (rw (sym e, t) (omega arith))

-- where the job's boundaries begin, as the code reads it
start-read : (s : List ℕ) {h : Header} → h ≡ header_at s → h.offsets.boundaries ≡ (header_at s).offsets.boundaries
start-read s e = ap (λ (h : Header). h.offsets.boundaries) e

pub read_header-h-requires : goal.read_header-h-requires
read_header-h-requires c = (job-part _ _ (sym c.job_has.ensures ∙ c.if-job_has.true)).header

pub slice_bounds-result-end : goal.slice_bounds-result-end
slice_bounds-result-end c =
    let j = job-part _ _ (sym c.job_has.ensures ∙ c.if-job_has.true) in
    omega (arith, j.inside, start-read _ c.read_header-h.ensures)

pub returns-then-job_has : goal.returns-then-job_has
returns-then-job_has c =
    of-job c.if-which-eq0.true refl refl (start-read _ c.read_header-h.ensures) (sym c.job_has.ensures ∙ c.if-job_has.true) refl

pub returns-then-which-eq0 : goal.returns-then-which-eq0
returns-then-which-eq0 c = not-job c.if-which-eq0.true refl refl (sym c.job_has.ensures ∙ c.if-job_has.false) refl

pub slice_bounds-result-end-then-list_has : goal.slice_bounds-result-end-then-list_has
slice_bounds-result-end-then-list_has c = omega (arith, list-part _ _ _ (sym c.list_has.ensures ∙ c.if-list_has.true))

pub returns-then-list_has : goal.returns-then-list_has
returns-then-list_has c = of-list c.if-which-eq0.false refl refl (sym c.list_has.ensures ∙ c.if-list_has.true) refl

pub returns : goal.returns
returns c = not-list c.if-which-eq0.false refl refl (sym c.list_has.ensures ∙ c.if-list_has.false) refl
