use Rattle.answer_text.proofs.Writing.{room, next, done}
use Rattle.answer_text.proofs.Pieces.{bits-start}
use Rattle.answer_text.proofs.lines.write_bits.Goals as goal

pub write_byte-end-requires : goal.write_byte-end-requires
write_byte-end-requires c = room (bits-start _ _ _ c.requires)

pub write_hex-requires : goal.write_hex-requires
write_hex-requires c =
    room (next (bits-start _ _ _ c.requires) c.write_byte-end.ensures)

pub returns : goal.returns
returns c =
    done (next (next (bits-start _ _ _ c.requires) c.write_byte-end.ensures) c.write_hex.ensures)
