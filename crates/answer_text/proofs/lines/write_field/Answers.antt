use Rattle.answer_text.proofs.Writing.{room, next, done}
use Rattle.answer_text.proofs.Pieces.{field-start}
use Rattle.answer_text.proofs.lines.write_field.Goals as goal

pub write_byte-end-requires : goal.write_byte-end-requires
write_byte-end-requires c = room (field-start _ _ _ c.requires)

pub write_decimal-requires : goal.write_decimal-requires
write_decimal-requires c =
    room (next (field-start _ _ _ c.requires) c.write_byte-end.ensures)

pub returns : goal.returns
returns c =
    done (next (next (field-start _ _ _ c.requires) c.write_byte-end.ensures) c.write_decimal.ensures)
