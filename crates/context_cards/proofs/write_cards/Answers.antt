use Rattle.std.proofs.Common.{◌≡◌, ◌<◌, ◌≤◌, length, arith}
use Rattle.grid.specs.Cells.{map_of}
use Rattle.areas.specs.Words.{labels_in}
use Rattle.context.proofs.Along.{place_of, next_place}
use Rattle.context.proofs.CountLoop.{column-small, row_small}
use Rattle.context_cards.proofs.Turns.{turn-start, turn_alone, turn-since, turn-room, turn, turn_end}
use Rattle.context_cards.proofs.write_cards.Goals as goal

pub loop-i-init : goal.loop-i-init
loop-i-init c =
    let a = c.args in
    record {
      place = omega arith;
      inside = c.requires.wide;
      after = λ height. turn_alone
          (turn-start (map_of a.width height a.cells.now) (labels_in a.labels.now (length a.cells.now)) a.areas c.requires.room c.clear.ensures (omega arith));
    }

pub count_cell-requires : goal.count_cell-requires
count_cell-requires c =
    let a = c.args in
    let i = c.loop-i.i in
    let inv = c.loop-i.invariant in
    let on : i < 1048576 = omega (arith, c.loop-i-test.true, c.requires.few) in
    let most : c.label_of.result ≤ a.areas = omega (arith, c.label_of.ensures, c.requires.each i c.loop-i-test.true) in
    let here = place_of (map_of a.width 0 a.cells.now) inv.place inv.inside in (
      turn-room a.labels.now c.requires.few (omega (arith, c.clear.auto.cards, c.requires.room)) c.loop-i-test.true (inv.after 0) c.label_of.ensures most,
      omega (arith, here.0, column-small i a.width on),
      omega (arith, here.1, row_small i a.width on),
    )

pub next_row-row-requires : goal.next_row-row-requires
next_row-row-requires c =
    let a = c.args in
    let i = c.loop-i.i in
    let inv = c.loop-i.invariant in
    let on : i < 1048576 = omega (arith, c.loop-i-test.true, c.requires.few) in
    (inv.inside, omega (arith, (place_of (map_of a.width 0 a.cells.now) inv.place inv.inside).1, row_small i a.width on))

pub loop-i-preserved : goal.loop-i-preserved
loop-i-preserved c =
    let a = c.args in
    let inv = c.loop-i.invariant in
    let most : c.label_of.result ≤ a.areas = omega (arith, c.label_of.ensures, c.requires.each c.loop-i.i c.loop-i-test.true) in
    let here = place_of (map_of a.width 0 a.cells.now) inv.place inv.inside in
    let next = next_place inv.place inv.inside c.next_column-column.ensures c.next_row-row.ensures in
    record {
      place = next.0;
      inside = next.1;
      after = λ height. turn a.labels.now c.requires.few (omega (arith, c.clear.auto.cards, c.requires.room)) c.loop-i-test.true (inv.after height)
          c.label_of.ensures most here.0 here.1 c.count_cell.ensures;
    }

pub returns : goal.returns
returns c =
    let a = c.args in
    let inv = c.loop-i.invariant in
    let all : c.loop-i.i ≡ length a.cells.now = omega (arith, c.loop-i.auto.i-end, c.loop-i-test.false) in
    λ height.
    turn_end a.labels.now c.requires.room all
    (turn-since (turn-start (map_of a.width height a.cells.now) (labels_in a.labels.now (length a.cells.now)) a.areas c.requires.room c.clear.ensures
    (omega arith)) (inv.after height))
