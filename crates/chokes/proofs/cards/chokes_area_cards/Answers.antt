use Rattle.chokes.proofs.cards.chokes_area_cards.Goals as goal

pub returns : goal.returns
returns c = rw (c.from.ensures.0, c.from.ensures.1) c.area_cards-told.ensures
