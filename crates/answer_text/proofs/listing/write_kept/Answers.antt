-- Each piece of the line finds the room that the pieces before it left.
use Rattle.answer_text.proofs.Writing.{room, next, done}
use Rattle.answer_text.proofs.Pieces.{kept-start}
use Rattle.answer_text.proofs.listing.write_kept.Goals as goal

pub write_text-end1-requires : goal.write_text-end1-requires
write_text-end1-requires c = room (kept-start _ _ _ c.requires)

pub write_field-end2-requires : goal.write_field-end2-requires
write_field-end2-requires c = room (next (kept-start _ _ _ c.requires) c.write_text-end1.ensures)

pub write_byte-requires : goal.write_byte-requires
write_byte-requires c = room (next (next (kept-start _ _ _ c.requires) c.write_text-end1.ensures) c.write_field-end2.ensures)

pub returns : goal.returns
returns c = done (next (next (next (kept-start _ _ _ c.requires) c.write_text-end1.ensures) c.write_field-end2.ensures) c.write_byte.ensures)
