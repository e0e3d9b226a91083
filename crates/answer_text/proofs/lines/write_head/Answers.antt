use Rattle.answer_text.proofs.Writing.{room, next, done}
use Rattle.answer_text.proofs.Pieces.{head-start}
use Rattle.answer_text.proofs.lines.write_head.Goals as goal

pub write_byte-end1-requires : goal.write_byte-end1-requires
write_byte-end1-requires c = room (head-start _ _ _ _ _ _ c.requires)

pub write_ends-end2-requires : goal.write_ends-end2-requires
write_ends-end2-requires c = room (next (head-start _ _ _ _ _ _ c.requires) c.write_byte-end1.ensures)

pub write_bits-end3-requires : goal.write_bits-end3-requires
write_bits-end3-requires c =
    room (next (next (head-start _ _ _ _ _ _ c.requires) c.write_byte-end1.ensures) c.write_ends-end2.ensures)

pub write_field-requires : goal.write_field-requires
write_field-requires c =
    room (next (next (next (head-start _ _ _ _ _ _ c.requires) c.write_byte-end1.ensures) c.write_ends-end2.ensures) c.write_bits-end3.ensures)

pub returns : goal.returns
returns c =
    done (next (next (next (next (head-start _ _ _ _ _ _ c.requires) c.write_byte-end1.ensures) c.write_ends-end2.ensures)
    c.write_bits-end3.ensures) c.write_field.ensures)
