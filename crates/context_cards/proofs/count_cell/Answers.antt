use Rattle.context_cards.proofs.Turns.{counted_none, counted-one, room-read}
use Rattle.context_cards.proofs.count_cell.Goals as goal

pub returns-then-label-eq0 : goal.returns-then-label-eq0
returns-then-label-eq0 c =
    let given = c.args in
    counted_none given.cards.now given.label given.column given.row given.cell c.if-label-eq0.true

pub with-requires : goal.with-requires
with-requires c =
    let s = c.args in (
      room-read s.cards.now s.label c.requires.0 c.if-label-eq0.false c.place_of-at.ensures c.read_card-s.ensures,
      c.requires.1,
      c.requires.2,
    )

pub returns : goal.returns
returns c =
    let given = c.args in
    counted-one given.cards.now given.label given.column given.row given.cell c.if-label-eq0.false c.place_of-at.ensures
    c.read_card-s.ensures c.with.ensures c.write_card.ensures
