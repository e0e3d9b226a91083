use mathlib.Core.List.{List, []}
use mathlib.Core.Path.{◌≡◌, refl, sym, ap, subst}
use Prim.Native.Nat.{ℕ, ◌+◌, ◌≤◌}
use native.Mathlib.Omega.{arith}
use lib.ListN.{length}
use Rattle.areas.specs.Open.{open_byte}
use Rattle.areas.specs.Spans.{SpanFits, spans_in}
use Rattle.grid.specs.Cells.{map_of}
use Rattle.grid.specs.Directions.{directions_of}
use Rattle.areas_steps.proofs.Filled.{splice-held, held-splice}
use Rattle.areas_steps.proofs.Listed.{spans-none, spans-last, held-as}
use Rattle.areas_steps.specs.Marks.{WorkHolds}
use Rattle.areas_steps.proofs.spans.mark_spans.Goals as goal

pub loop-k-init : goal.loop-k-init
loop-k-init c = λ b hd. held-as _ _ (spans-none c.args.ends.now) hd

pub close_cut-requires : goal.close_cut-requires
close_cut-requires c =
    let fits : SpanFits c.args.width c.args.height c.span_at.result = rw c.span_at.ensures (c.requires.4.each c.loop-k.k c.loop-k-test.true) in
    (c.requires.0, fits, omega (arith, c.loop-k.auto.work, c.open_steps.auto, c.requires.2))

pub loop-k-preserved : goal.loop-k-preserved
loop-k-preserved c =
    let ends = c.args.ends.now in
    let k = c.loop-k.k in
    λ b hd. held-as _ _ (spans-last ends k c.span_at.ensures)
    (c.close_cut.ensures _ _ (spans_in ends k) b (record { columns = refl; rows = refl; whole = c.requires.1 }) (c.loop-k.invariant b hd))

pub returns : goal.returns
returns c =
    let a = c.args in
    let cs = a.cells.now in
    let g = map_of a.width a.height cs in
    let dirs = directions_of a.directions in
    let entry = a.work.now in
    let n = length cs in
    let room : a.base + n ≤ length entry = omega (arith, c.requires.1, c.requires.2) in
    let e : c.loop-k.k ≡ a.count = omega (arith, c.loop-k.auto.k-end, c.loop-k-test.false) in
    let opened = subst (λ (l : List ℕ). WorkHolds a.base n (open_byte dirs g []) entry l) (sym c.open_steps.ensures)
    (splice-held entry a.base n (open_byte dirs g []) room) in
    held-splice entry a.base n (open_byte dirs g (spans_in a.ends.now a.count)) room
    (held-as dirs g (ap (spans_in a.ends.now) e) (c.loop-k.invariant entry opened))
