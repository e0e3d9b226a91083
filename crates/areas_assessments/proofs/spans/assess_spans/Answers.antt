use mathlib.Core.Path.{sym, ◌∙◌}
use Prim.Native.Nat.{◌≤◌}
use lib.ListN.{length}
use native.Mathlib.Omega.{arith}
use borrow.Author.Rules.{rules}
use Rattle.areas_assessments.proofs.Filling.{run-filled, run-long}
use Rattle.areas_assessments.proofs.Recording.{recording-start, recording-over, recording-next, recording-end, grows, span-on, span-holds}
use Rattle.areas_assessments.proofs.spans.assess_spans.Goals as goal

pub loop-i-init : goal.loop-i-init
loop-i-init c =
    let pre = c.requires in
    (pre.0, pre.1, omega arith, recording-start _ _ _ _ pre.1)

pub assess_span-a-requires : goal.assess_span-a-requires
assess_span-a-requires c =
    let inv = c.loop-i.invariant in
    let a = inv.3.arrays in (
      span-on inv.0 c.loop-i-test.true c.span_at-span.ensures,
      omega (arith, inv.3.few, a.lefts-are),
      a.rights-are ∙ sym a.lefts-are,
      omega (arith, a.lefts-are, a.few),
    )

pub returns-then-most-next : goal.returns-then-most-next
returns-then-most-next c =
    let r = c.loop-i.invariant.3 in
    let h = span-holds _ _ _ _ _ _ c.span_at-span.ensures r.arrays.lefts-are c.assess_span-a.ensures in
    recording-over _ _ _ _ r h _ c.loop-i-test.true c.if-most-next.true

pub slice_bounds-fill-start : goal.slice_bounds-fill-start
slice_bounds-fill-start c =
    let r = c.loop-i.invariant.3 in
    grows _ _ _ _ r (span-holds _ _ _ _ _ _ c.span_at-span.ensures r.arrays.lefts-are c.assess_span-a.ensures) c.if-most-next.false

pub slice_bounds-fill-end : goal.slice_bounds-fill-end
slice_bounds-fill-end c =
    let room : c.assess_span-a.result.end ≤ length c.loop-i.owners = omega (arith, c.if-most-next.false, c.loop-i.invariant.3.arrays.owners-are) in
    room

pub slice_bounds-fill-count : goal.slice_bounds-fill-count
slice_bounds-fill-count c =
    let r = c.loop-i.invariant.3 in
    grows _ _ _ _ r (span-holds _ _ _ _ _ _ c.span_at-span.ensures r.arrays.lefts-are c.assess_span-a.ensures) c.if-most-next.false

pub loop-i-preserved : goal.loop-i-preserved
loop-i-preserved c =
    let inv = c.loop-i.invariant in
    let r = inv.3 in
    let turns = c.loop-i-test.true in
    let h = span-holds _ _ _ _ _ _ c.span_at-span.ensures r.arrays.lefts-are c.assess_span-a.ensures in
    let m = c.if-most-next.false in
    let rises = grows _ _ _ _ r h m in
    let room : c.assess_span-a.result.end ≤ length c.loop-i.owners = omega (arith, m, r.arrays.owners-are) in
    let filled = c.fill.ensures.after (λ y e. search rules) in
    let kept = c.assess_span-a.auto in (
      inv.0,
      inv.1,
      omega (arith, turns),
      recording-next _ _ _ _ r h m (omega (arith, inv.0.few, turns)) (run-filled _ _ _ _ _ rises room filled)
          (run-long _ _ _ _ _ rises room filled) kept.lefts kept.rights,
    )

pub returns : goal.returns
returns c =
    let inv = c.loop-i.invariant in
    recording-end _ _ _ _ inv.3 (omega (arith, inv.2, c.loop-i-test.false))
