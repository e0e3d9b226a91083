use Rattle.std.proofs.Common.{arith}
use Rattle.marks_closing.specs.Ranges.{other_edges}
use Rattle.marks_closing.proofs.Halves.{restored-back, open-left, done_none, ready-left}
use Rattle.marks_closing.proofs.Turns.{turning-start, turning-next, turning-end}
use Rattle.marks_closing.proofs.ranges.Records.+close_range.Goals as goal

-- no record in the range
pub returns-then-from-to : goal.returns-then-from-to
returns-then-from-to t c = done_none c.requires c.if-from-to.true

pub loop-b-init : goal.loop-b-init
loop-b-init t c = turning-start c.requires

-- the second half is joined, and the first is closed
pub close_range-requires : goal.close_range-requires
close_range-requires t c =
    let inv = c.loop-b.invariant in
    let wide = c.loop-b-test.true in (
      omega (arith, c.decreases, inv.low, inv.opened.range.some, wide),
      open-left inv.opened c.first_from-cut.ensures (omega (arith, wide)) (omega (arith, wide)) c.join_records-k.ensures,
    )

-- that is taken back, and the first half is joined
pub join_records-m-requires : goal.join_records-m-requires
join_records-m-requires t c =
    ready-left c.loop-b.invariant.opened c.first_from-cut.ensures
    (restored-back c.join_records-k.ensures c.close_range.ensures.restored c.undo.ensures)

pub loop-b-preserved : goal.loop-b-preserved
loop-b-preserved t c =
    let wide = c.loop-b-test.true in
    turning-next c.requires c.loop-b.invariant c.first_from-cut.ensures (omega (arith, wide)) (omega (arith, wide)) c.join_records-k.ensures
    c.close_range.ensures c.undo.ensures c.join_records-m.ensures

-- the last boundary
pub returns : goal.returns
returns t c =
    let a = c.args in
    let r = a.self.now in
    let o = c.loop-b.invariant.opened in
    turning-end c.requires c.loop-b.invariant (omega (arith, c.loop-b-test.false, o.range.some))
    (c.mark_one.ensures (other_edges r.owners.now r.lefts.now r.rights.now r.count c.loop-b.a a.to) o.forest) c.undo-2.ensures
