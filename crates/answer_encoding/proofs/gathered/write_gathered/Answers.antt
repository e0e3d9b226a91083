use Rattle.std.proofs.Common.{arith}
use Rattle.answer_encoding.proofs.Rooms.{gather-arrays}
use Rattle.answer_encoding.proofs.gathered.write_gathered.Goals as goal

pub write_gathered_in-requires : goal.write_gathered_in-requires
write_gathered_in-requires g c =
    (c.requires.0, c.requires.1, gather-arrays g.row.SOURCES g.row.PLACES (omega arith) (omega arith) (omega arith) (omega arith))
