use Rattle.std.proofs.Common.{arith}
use Rattle.answer_gathering.proofs.Weights.{seens-room-same}
use Rattle.answer_gathering.proofs.Kepts.{seens-start, seens-counted, seens-end}
use Rattle.answer_gathering.proofs.seen.gather_seens.Goals as goal

pub loop-i-init : goal.loop-i-init
loop-i-init c = seens-start _ _ _ _ _ _ _ _ _ _ _ _ _ _

pub seen_rank-a-requires : goal.seen_rank-a-requires
seen_rank-a-requires c =
    (seens-room-same c.requires (omega arith) (omega arith) (omega arith), omega arith, c.loop-i.invariant)

pub loop-i-preserved : goal.loop-i-preserved
loop-i-preserved c = seens-counted c.loop-i.k c.counted-k.ensures.0 c.seen_rank-a.ensures

pub returns : goal.returns
returns c = seens-end _ _ _ _ _ _ _ _ _ _ _ _ c.loop-i.invariant (omega arith) (omega arith)
