use Rattle.std.proofs.Common.{arith}
use Rattle.answer_gathering.proofs.Weights.{owns-room-same}
use Rattle.answer_gathering.proofs.Kepts.{owns-start, owns-counted, owns-end}
use Rattle.answer_gathering.proofs.own.gather_owns.Goals as goal

pub loop-i-init : goal.loop-i-init
loop-i-init c = owns-start _ _ _ _ _ _ _ _ _ _ _ c.requires.1

pub own_rank-end-requires : goal.own_rank-end-requires
own_rank-end-requires c = (owns-room-same c.requires.0 (omega arith) (omega arith), omega arith, c.loop-i.invariant)

pub loop-i-preserved : goal.loop-i-preserved
loop-i-preserved c = owns-counted c.loop-i.k c.counted-k.ensures.0 c.own_rank-end.ensures

pub returns : goal.returns
returns c = owns-end _ _ _ _ _ _ _ _ _ c.loop-i.invariant (omega arith) (omega arith)
