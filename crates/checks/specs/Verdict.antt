-- What the answers of the code stand for: document 01's number with its detail, or none.
use Rattle.std.specs.Prelude.{ℕ, Bool, true, false, Result, Ok, Err}
use Rattle.std.proofs.Math.Option.{Option, none, some}
use Rattle.checks.specs.Checks.{Refusal}
use Rattle.checks.specs.Numbers.{job_too_short, bad_sides, too_many_records, too_many_boundaries, bad_layout, bad_cell, anchor_off_map, bad_sums, bad_ramp}
use Rattle.checks.specs.Numbers.{bad_width, end_off_map, ends_coincide, too_many_pairs, bad_list_length, too_many_spans, span_off_map, span_ends_coincide}
use Rattle.checks.specs.Numbers.{work_too_short, answer_too_short, marks_too_short, slice_too_short, bad_thresholds}
use Rattle.checks.specs.declared.refused.Refused.{Refused}
use Rattle.checks.specs.declared.refused.Refused.TheVariants.{JobTooShort, BadSides, TooManyRecords, TooManyBoundaries, BadLayout, BadCell, AnchorOffMap}
use Rattle.checks.specs.declared.refused.Refused.TheVariants.{BadSums, BadRamp, BadWidth, EndOffMap, EndsCoincide, TooManyPairs, BadListLength, TooManySpans}
use Rattle.checks.specs.declared.refused.Refused.TheVariants.{SpanOffMap, SpanEndsCoincide, WorkTooShort, AnswerTooShort, MarksTooShort, SliceTooShort}
use Rattle.checks.specs.declared.refused.Refused.TheVariants.{BadThresholds}

abbrev refused : ℕ → ℕ → Refusal
refused n d = record { number = n; detail = d }

-- Document 01's number with its detail.
abbrev pub refusal_of : Refused → Refusal
refusal_of JobTooShort = refused job_too_short 0
refusal_of BadSides = refused bad_sides 0
refusal_of TooManyRecords = refused too_many_records 0
refusal_of (TooManyBoundaries n) = refused too_many_boundaries n
refusal_of BadLayout = refused bad_layout 0
refusal_of (BadCell i) = refused bad_cell i
refusal_of (AnchorOffMap i) = refused anchor_off_map i
refusal_of BadSums = refused bad_sums 0
refusal_of (BadRamp i) = refused bad_ramp i
refusal_of (BadWidth i) = refused bad_width i
refusal_of (EndOffMap i) = refused end_off_map i
refusal_of (EndsCoincide i) = refused ends_coincide i
refusal_of TooManyPairs = refused too_many_pairs 0
refusal_of BadListLength = refused bad_list_length 0
refusal_of (TooManySpans n) = refused too_many_spans n
refusal_of (SpanOffMap i) = refused span_off_map i
refusal_of (SpanEndsCoincide i) = refused span_ends_coincide i
refusal_of WorkTooShort = refused work_too_short 0
refusal_of (AnswerTooShort n) = refused answer_too_short n
refusal_of MarksTooShort = refused marks_too_short 0
refusal_of (SliceTooShort n) = refused slice_too_short n
refusal_of BadThresholds = refused bad_thresholds 0

-- What an answer refuses, or none.
abbrev pub meaning : {A : Type 0} → Result A Refused → Option Refusal
meaning (Ok _) = none
meaning (Err e) = some (refusal_of e)

abbrev pub passes : Option Refusal → Bool
passes none = true
passes (some r) = false

-- 0 where nothing is refused.
abbrev pub number_of : Option Refusal → ℕ
number_of none = 0
number_of (some r) = r.number

abbrev pub detail_of : Option Refusal → ℕ
detail_of none = 0
detail_of (some r) = r.detail

-- The detail of an answer that counts: its count, or that of its refusal.
abbrev pub count_or_detail : Result ℕ Refused → ℕ
count_or_detail (Ok n) = n
count_or_detail (Err e) = (refusal_of e).detail
