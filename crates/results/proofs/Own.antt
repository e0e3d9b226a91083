-- A job's own boundaries: their ends by place, and that these fit the map where no check of Mark holds.
use mathlib.Core.Path.{◌≡◌, refl, sym, ◌∙◌, ap}
use mathlib.Core.Bool.{Bool, true, false}
use mathlib.Core.List.{List, [], ◌∷◌, map}
use mathlib.Core.Option.{none}
use Prim.Native.Nat.{ℕ, ◌+◌, ◌*◌, ◌≤◌, ◌<◌}
use native.Mathlib.Omega.{arith}
use borrow.Author.Tests.{ltb-false}
use lib.Dec.{ltb}
use lib.ListN.{length, drop, take, length-map}
use Rattle.lists.specs.Rows.{rows}
use Rattle.lists.proofs.Rows.{length-rows, map_rows}
use Rattle.order.proofs.Bools.{or_parts}
use Rattle.position.specs.Order.{pos_le, pos_same, canonical, swapped}
use Rattle.position.specs.declared.Span.{Span}
use Rattle.position.proofs.Order.{le_total, other_way, canonical-swapped, ordered}
use Rattle.format.specs.Sizes.{header_size, boundary_size}
use Rattle.format.specs.Values.{Boundary}
use Rattle.format.specs.Records.{span_at, boundary_at}
use Rattle.format.specs.Header.{header_at, counts_at, boundaries_start}
use Rattle.format.specs.Decode.{decode, job_with, decode_boundaries, boundary_records, boundaries_with, boundary_with, source_count}
use Rattle.format.specs.declared.records.Source.{Source}
use Rattle.format.specs.declared.records.BoundaryRecord.{BoundaryRecord}
use Rattle.format.specs.declared.records.ObservationRecord.{ObservationRecord}
use Rattle.areas.specs.Spans.{SpanFits}
use Rattle.checks.specs.Checks.{first_refusal}
use Rattle.checks.specs.Faults.{ends_fault, position_fault}
use Rattle.checks.specs.Passed.{Laid}
use Rattle.checks.specs.Single.{span_checks, ends_check}
use Rattle.checks_calls.specs.Refusals.{job_checks, ends_checks, boundary_checks, mark_checks}
use Rattle.checks.proofs.Firsts.{none_right, none-head, each_none}
use Rattle.checks_calls.proofs.Passing.{boundaries-passed}
use Rattle.results.specs.Results.{own_ends}

ends_with : (rs : List BoundaryRecord) (os : List ObservationRecord) (ss : List Source)
    → map (λ (b : Boundary). b.ends) (boundaries_with rs os ss) ≡ map (λ (r : BoundaryRecord). r.ends) rs
unfolding boundaries_with boundary_with
ends_with [] os ss = refl
ends_with (r ∷ rs) os ss = ap (λ (l : List Span). r.ends ∷ l)
    (ends_with rs (drop r.observations os) (drop (r.sources + source_count (take r.observations os)) ss))

-- where the record of boundary k begins
abbrev pub boundary_place : List ℕ → ℕ → ℕ
boundary_place s k = boundaries_start (counts_at s 0) + k * boundary_size

pub own-ends : (s : List ℕ) → own_ends (decode s) ≡ rows (counts_at s 0).boundaries (λ k. span_at s (boundary_place s k))
unfolding decode job_with decode_boundaries boundary_records boundary_at
own-ends s =
    ends_with (boundary_records s (boundaries_start (counts_at s 0)) (counts_at s 0).boundaries) _ _
    ∙ map_rows (λ (r : BoundaryRecord). r.ends) (counts_at s 0).boundaries (λ k. boundary_at s (boundary_place s k))

pub boundary-count : (s : List ℕ) → length (decode s).boundaries ≡ (counts_at s 0).boundaries
boundary-count s =
    sym (length-map (decode s).boundaries (λ (b : Boundary). b.ends))
    ∙ (ap (λ (l : List Span). length l) (own-ends s) ∙ length-rows (counts_at s 0).boundaries (λ k. span_at s (boundary_place s k)))

-- a span with no fault fits the map, earlier end first
pub canonical-fits : {w h : ℕ} (e : Span) → ends_fault w h e ≡ false → pos_same e.a e.b ≡ false → SpanFits w h (canonical e)
canonical-fits {w} {h} e f d = go (pos_le e.a e.b) refl
  where
    at_a : (ltb (w * 8) e.a.x ≡ false) × (ltb (h * 8) e.a.y ≡ false)
    at_a = or_parts (ltb (w * 8) e.a.x) _ (or_parts (position_fault w h e.a) (position_fault w h e.b) f).0

    at_b : (ltb (w * 8) e.b.x ≡ false) × (ltb (h * 8) e.b.y ≡ false)
    at_b = or_parts (ltb (w * 8) e.b.x) _ (or_parts (position_fault w h e.a) (position_fault w h e.b) f).1

    ax : e.a.x ≤ 8 * w
    ax = omega (arith, ltb-false (w * 8) e.a.x at_a.0)

    ay : e.a.y ≤ 8 * h
    ay = omega (arith, ltb-false (h * 8) e.a.y at_a.1)

    bx : e.b.x ≤ 8 * w
    bx = omega (arith, ltb-false (w * 8) e.b.x at_b.0)

    by : e.b.y ≤ 8 * h
    by = omega (arith, ltb-false (h * 8) e.b.y at_b.1)

    go : (t : Bool) → pos_le e.a e.b ≡ t → SpanFits w h (canonical e)
    go true k = rw (ordered e k) (record { ordered = k; apart = d; a-column = ax; a-row = ay; b-column = bx; b-row = by })
    go false k =
        let z = le_total e.a e.b k in
        let c : canonical e ≡ swapped e = sym (canonical-swapped e) ∙ ordered (swapped e) z in
        rw c (record { ordered = z; apart = other_way e.a e.b d; a-column = bx; a-row = by; b-column = ax; b-row = ay })

module _ (s : List ℕ) (e : first_refusal (mark_checks s) ≡ none) where
  pub mark-laid : (header_size ≤ length s) × Laid s (header_at s)
  unfolding mark_checks
  mark-laid = boundaries-passed true s e

  pub ends-fit : (k : ℕ) → k < (counts_at s 0).boundaries → SpanFits (counts_at s 0).width (counts_at s 0).height (canonical (span_at s (boundary_place s k)))
  unfolding mark_checks boundary_checks ends_checks ends_check span_checks header_at boundary_at
  ends-fit k h =
      let r = none_right (job_checks s) _ e in
      let f = each_none (ends_check true s (counts_at s 0).width (counts_at s 0).height (boundaries_start (counts_at s 0))) (counts_at s 0).boundaries k h r in
      let a = none-head _ _ f in
      let b = none-head _ _ a.1 in
      canonical-fits (span_at s (boundary_place s k)) a.0 b.0
