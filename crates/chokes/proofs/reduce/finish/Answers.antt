use native.Mathlib.Omega.{arith}
use Rattle.analysis.proofs.Calling.{header-there}
use Rattle.chokes.proofs.Finishing.{finished-short, finished-whole}
use Rattle.chokes.proofs.reduce.finish.Goals as goal

pub read_header-h-requires : goal.read_header-h-requires
read_header-h-requires c = header-there _ c.requires.passed

pub write_answer-n-requires : goal.write_answer-n-requires
write_answer-n-requires c =
    rw c.read_header-h.ensures c.requires

pub returns-then-room-n : goal.returns-then-room-n
returns-then-room-n c =
    finished-short c.write_answer-n.ensures (omega (arith, c.if-room-n.true))

pub returns : goal.returns
returns c =
    finished-whole c.write_answer-n.ensures (omega (arith, c.if-room-n.false))
