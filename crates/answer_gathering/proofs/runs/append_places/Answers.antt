use Rattle.std.proofs.Common.{refl, arith}
use Rattle.order.specs.Lists.{up_from}
use Rattle.answer_gathering.proofs.Fills.{places-start, places-next, run_end}
use Rattle.answer_gathering.proofs.runs.append_places.Goals as goal

pub loop-k-init : goal.loop-k-init
loop-k-init c = places-start _ _ _

pub loop-k-preserved : goal.loop-k-preserved
loop-k-preserved c = places-next _ _ c.loop-k.invariant refl (omega arith)

pub returns : goal.returns
returns c = run_end (up_from _) _ _ c.loop-k.invariant refl (omega arith) (omega arith)
