-- "The ends of span i, counted from 0, are shown as a part of the job or of the span list; a u32 chooses, 0 for the job's
-- boundaries as Reduce reads them, any other for the list as Reduce by list does. Past the last span, or where that
-- call's checks 1 to 12 or 14 to 17 would refuse, the part is empty."
use Rattle.std.specs.Prelude.{◌≡◌, ℕ, ◌+◌, ◌*◌, cond, ◌&&◌, List, [], ltb, eqb}
use Rattle.wire.specs.Bytes.{part}
use Rattle.format.specs.Sizes.{boundary_size, span_size}
use Rattle.format.specs.Header.{header_at, boundaries_start}
use Rattle.checks.specs.Checks.{first_refusal}
use Rattle.checks.specs.Single.{span_count}
use Rattle.checks_calls.specs.Refusals.{reduce_checks, by_list_checks}
use Rattle.checks.specs.Verdict.{passes}

unfoldable pub job_ends : List ℕ → ℕ → List ℕ
unfolding part
job_ends s i =
    cond (passes (first_refusal (reduce_checks s)) && ltb i (header_at s).counts.boundaries)
    (part s (boundaries_start (header_at s).counts + i * boundary_size) span_size)
    []

unfoldable pub list_ends : List ℕ → List ℕ → ℕ → List ℕ
unfolding part
list_ends s l i = cond (passes (first_refusal (by_list_checks s l)) && ltb i (span_count l)) (part l (i * span_size) span_size) []

unfoldable pub span_ends : List ℕ → List ℕ → ℕ → ℕ → List ℕ
unfolding job_ends list_ends
span_ends s l which i = cond (eqb which 0) (job_ends s i) (list_ends s l i)

-- where the part begins in the job or in the list; an empty one is at the start
unfoldable pub job_place : List ℕ → ℕ → ℕ
job_place s i = cond (passes (first_refusal (reduce_checks s)) && ltb i (header_at s).counts.boundaries)
    (boundaries_start (header_at s).counts + i * boundary_size) 0

unfoldable pub list_place : List ℕ → List ℕ → ℕ → ℕ
list_place s l i = cond (passes (first_refusal (by_list_checks s l)) && ltb i (span_count l)) (i * span_size) 0

-- "shown as a part of the job or of the span list": its bytes, and where it is; the address of a slice is a block and a place in it
pub record SpanPart (s l : List ℕ) (which i : ℕ) (job list part : ℕ × ℕ) (bytes : List ℕ) : Type 0 where
  pub bytes-are : bytes ≡ span_ends s l which i
  pub job-block : which ≡ 0 → part.0 ≡ job.0
  pub job-place : which ≡ 0 → part.1 ≡ job.1 + job_place s i
  pub list-block : (which ≡ 0 → ⊥) → part.0 ≡ list.0
  pub list-place : (which ≡ 0 → ⊥) → part.1 ≡ list.1 + list_place s l i
