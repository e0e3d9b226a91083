use Rattle.answer_text.proofs.Writing.{room, next, done}
use Rattle.answer_text.proofs.Pieces.{observation-start}
use Rattle.answer_text.proofs.lines.write_observation_line.Goals as goal

pub write_head-end-requires : goal.write_head-end-requires
write_head-end-requires c = room (observation-start _ _ _ _ _ c.requires)

pub write_byte-requires : goal.write_byte-requires
write_byte-requires c =
    room (next (observation-start _ _ _ _ _ c.requires) c.write_head-end.ensures)

pub returns : goal.returns
returns c =
    done (next (next (observation-start _ _ _ _ _ c.requires) c.write_head-end.ensures) c.write_byte.ensures)
