use Rattle.answer_text.proofs.Writing.{room, next, done}
use Rattle.answer_text.proofs.Pieces.{four-start}
use Rattle.answer_text.proofs.lines.write_four.Goals as goal

pub write_field-end1-requires : goal.write_field-end1-requires
write_field-end1-requires c = room (four-start _ _ _ _ _ _ c.requires)

pub write_field-end2-requires : goal.write_field-end2-requires
write_field-end2-requires c = room (next (four-start _ _ _ _ _ _ c.requires) c.write_field-end1.ensures)

pub write_field-end3-requires : goal.write_field-end3-requires
write_field-end3-requires c =
    room (next (next (four-start _ _ _ _ _ _ c.requires) c.write_field-end1.ensures) c.write_field-end2.ensures)

pub write_field-requires : goal.write_field-requires
write_field-requires c =
    room (next (next (next (four-start _ _ _ _ _ _ c.requires) c.write_field-end1.ensures) c.write_field-end2.ensures) c.write_field-end3.ensures)

pub returns : goal.returns
returns c =
    done (next (next (next (next (four-start _ _ _ _ _ _ c.requires) c.write_field-end1.ensures) c.write_field-end2.ensures)
    c.write_field-end3.ensures) c.write_field.ensures)
