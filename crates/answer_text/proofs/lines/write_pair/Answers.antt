use Rattle.answer_text.proofs.Writing.{room, next, done}
use Rattle.answer_text.proofs.Pieces.{pair-start}
use Rattle.answer_text.proofs.lines.write_pair.Goals as goal

pub write_text-end1-requires : goal.write_text-end1-requires
write_text-end1-requires c = room (pair-start _ _ _ _ _ c.requires)

pub write_field-end2-requires : goal.write_field-end2-requires
write_field-end2-requires c = room (next (pair-start _ _ _ _ _ c.requires) c.write_text-end1.ensures)

pub write_field-end3-requires : goal.write_field-end3-requires
write_field-end3-requires c =
    room (next (next (pair-start _ _ _ _ _ c.requires) c.write_text-end1.ensures) c.write_field-end2.ensures)

pub write_byte-requires : goal.write_byte-requires
write_byte-requires c =
    room (next (next (next (pair-start _ _ _ _ _ c.requires) c.write_text-end1.ensures) c.write_field-end2.ensures) c.write_field-end3.ensures)

pub returns : goal.returns
returns c =
    done (next (next (next (next (pair-start _ _ _ _ _ c.requires) c.write_text-end1.ensures) c.write_field-end2.ensures)
    c.write_field-end3.ensures) c.write_byte.ensures)
