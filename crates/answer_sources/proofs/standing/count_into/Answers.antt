use Rattle.std.proofs.Common.{refl, arith}
use Rattle.answer_sources.proofs.Stands.{sizes-start, sizes-next, sizes-end}
use Rattle.answer_sources.proofs.standing.count_into.Goals as goal

pub loop-j-init : goal.loop-j-init
loop-j-init c = sizes-start _ c.requires.1

pub loop-j-preserved : goal.loop-j-preserved
loop-j-preserved c = sizes-next c.loop-j.invariant refl c.count_one.ensures.0 c.count_one.ensures.1

pub returns : goal.returns
returns c = sizes-end c.loop-j.invariant (omega arith) (omega arith)
