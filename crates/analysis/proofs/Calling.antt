-- A job that Reduce or Reduce by list takes.
use mathlib.Core.Path.{◌≡◌, refl, sym, ◌∙◌, ap}
use mathlib.Core.Bool.{true, false}
use mathlib.Core.List.{List}
use mathlib.Core.Option.{none, some}
use Rattle.std.specs.Prelude.{Result, Ok, Err}
use Rattle.std.specs.Result.{IsErrAnd}
use Prim.Native.Nat.{ℕ, ◌*◌, ◌<◌, ◌≤◌}
use native.Mathlib.Omega.{arith}
use lib.ListN.{length}
use Rattle.wire.specs.Bytes.{AreBytes}
use Rattle.format.specs.Sizes.{header_size}
use Rattle.format.specs.Header.{header_at}
use Rattle.format.specs.Decode.{decode}
use Rattle.format.specs.declared.header.Header.{Header}
use Rattle.checks.specs.Checks.{first_refusal}
use Rattle.checks.specs.Passed.{Laid}
use Rattle.checks.specs.Verdict.{meaning, refusal_of, count_or_detail}
use Rattle.checks.specs.declared.refused.Refused.{Refused}
use Rattle.checks.specs.declared.refused.Refused.TheVariants.{JobTooShort, BadSides, TooManyRecords, TooManyBoundaries, BadLayout, BadCell, AnchorOffMap}
use Rattle.checks.specs.declared.refused.Refused.TheVariants.{BadSums, BadRamp, BadWidth, EndOffMap, EndsCoincide, TooManyPairs, BadListLength, TooManySpans}
use Rattle.checks.specs.declared.refused.Refused.TheVariants.{SpanOffMap, SpanEndsCoincide, WorkTooShort, AnswerTooShort, MarksTooShort, SliceTooShort}
use Rattle.checks.specs.declared.refused.Refused.TheVariants.{BadThresholds}
use Rattle.checks_calls.specs.Refusals.{job_checks, boundary_checks, reduce_checks, by_list_checks, mark_checks}
use Rattle.checks.proofs.Firsts.{none_left}
use Rattle.checks.proofs.Limits.{cells-limit}
use Rattle.checks_calls.proofs.Passing.{job-passed}
use Rattle.results.specs.Results.{work_size}
use Rattle.analysis.specs.Plans.{Headed, OwnJob}
use Rattle.analysis.proofs.Headed.{headed-laid}
use Rattle.analysis.proofs.Mapped.{map-cells, map-long}

-- each refusal has a number
pub numbered : (e : Refused) → 0 < (refusal_of e).number
numbered JobTooShort = omega arith
numbered BadSides = omega arith
numbered TooManyRecords = omega arith
numbered (TooManyBoundaries n) = omega arith
numbered BadLayout = omega arith
numbered (BadCell i) = omega arith
numbered (AnchorOffMap i) = omega arith
numbered BadSums = omega arith
numbered (BadRamp i) = omega arith
numbered (BadWidth i) = omega arith
numbered (EndOffMap i) = omega arith
numbered (EndsCoincide i) = omega arith
numbered TooManyPairs = omega arith
numbered BadListLength = omega arith
numbered (TooManySpans n) = omega arith
numbered (SpanOffMap i) = omega arith
numbered (SpanEndsCoincide i) = omega arith
numbered WorkTooShort = omega arith
numbered (AnswerTooShort n) = omega arith
numbered MarksTooShort = omega arith
numbered (SliceTooShort n) = omega arith
numbered BadThresholds = omega arith

-- a refusal that `?` passes on
pub passed_on : {A : Type 0} (r : Result A Refused) (e : Refused) → IsErrAnd r (λ x. x ≡ e) → meaning r ≡ some (refusal_of e)
passed_on (Ok x) e h = absurd h
passed_on (Err x) e h = ap (λ (e : Refused). some (refusal_of e)) h

pub counted_on : (r : Result ℕ Refused) (e : Refused) → IsErrAnd r (λ x. x ≡ e) → count_or_detail r ≡ (refusal_of e).detail
counted_on (Ok x) e h = absurd h
counted_on (Err x) e h = ap (λ (e : Refused). (refusal_of e).detail) h

-- the cells of a job past 1 to 10
module _ (s : List ℕ) {h : Header} (e : first_refusal (job_checks s) ≡ none) (k : h ≡ header_at s) where
  laid : Laid s h
  laid = rw k (job-passed s e).1

  pub job-cells : h.counts.width * h.counts.height ≤ 1_048_576
  job-cells = cells-limit h.counts laid.within

  pub job-long : length (decode s).cells ≡ h.counts.width * h.counts.height
  job-long = ap length (sym (map-cells k laid _ refl)) ∙ map-long k laid _ refl

-- ten bytes a cell
pub headed-work : {s : List ℕ} {h : Header} → Headed s h → work_size (decode s) ≡ 10 * (h.counts.width * h.counts.height)
headed-work d = ap (λ (n : ℕ). 10 * n) (ap length (sym (map-cells d.header (headed-laid d) _ refl)) ∙ map-long d.header (headed-laid d) _ refl)

-- the header can be read
pub header-there : (s : List ℕ) → first_refusal (job_checks s) ≡ none → header_size ≤ length s
header-there s e = (job-passed s e).0

pub reduce-job : (s : List ℕ) → first_refusal (reduce_checks s) ≡ none → first_refusal (job_checks s) ≡ none
unfolding reduce_checks boundary_checks
reduce-job s e = none_left (job_checks s) _ e

pub by-list-job : (s t : List ℕ) → first_refusal (by_list_checks s t) ≡ none → first_refusal (job_checks s) ≡ none
unfolding by_list_checks boundary_checks
by-list-job s t e = none_left (job_checks s) _ (none_left (boundary_checks false s) _ e)

pub mark-job : (s : List ℕ) → first_refusal (mark_checks s) ≡ none → first_refusal (job_checks s) ≡ none
unfolding mark_checks boundary_checks
mark-job s e = none_left (job_checks s) _ e

pub mark-own : {s : List ℕ} {h : Header} {work : List ℕ} → AreBytes s → first_refusal (mark_checks s) ≡ none → h ≡ header_at s
    → work_size (decode s) ≤ length work → OwnJob s h work
unfolding mark_checks
mark-own a e k w = record { headed = record { distinct = true; bytes = a; passed = e; header = k }; apart = refl; room = w }

pub reduce-own : {s : List ℕ} {h : Header} {work : List ℕ} → AreBytes s → first_refusal (reduce_checks s) ≡ none → h ≡ header_at s
    → work_size (decode s) ≤ length work → OwnJob s h work
unfolding reduce_checks
reduce-own a e k w = record { headed = record { distinct = true; bytes = a; passed = e; header = k }; apart = refl; room = w }

pub reduce-headed : {s : List ℕ} {h : Header} → AreBytes s → first_refusal (reduce_checks s) ≡ none → h ≡ header_at s → Headed s h
unfolding reduce_checks
reduce-headed a e k = record { distinct = true; bytes = a; passed = e; header = k }

pub by-list-headed : (s t : List ℕ) {h : Header} → AreBytes s → first_refusal (by_list_checks s t) ≡ none → h ≡ header_at s → Headed s h
unfolding by_list_checks
by-list-headed s t a e k = record { distinct = false; bytes = a; passed = none_left (boundary_checks false s) _ e; header = k }
