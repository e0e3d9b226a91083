use Rattle.std.proofs.Common.{refl, arith}
use Rattle.answer_sources.proofs.KeysRead.{part-start, part-next, part_end}
use Rattle.answer_sources.proofs.keys.read_part.Goals as goal

pub loop-i-init : goal.loop-i-init
loop-i-init c = part-start _ _ _ _

pub loop-i-preserved : goal.loop-i-preserved
loop-i-preserved c =
    part-next _ _ _ _ c.loop-i.i c.read_source-s.result c.loop-i.invariant (omega arith) refl refl c.read_source-s.ensures c.packed.ensures.0

pub returns : goal.returns
returns c = part_end _ _ _ _ c.loop-i.i _ c.loop-i.invariant (omega arith) (omega arith)
