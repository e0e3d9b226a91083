use Rattle.std.proofs.Common.{arith}
use Rattle.checks.proofs.Adding.{added-start, added_next, added-end}
use Rattle.answer_encoding.proofs.sums.sum_first.Goals as goal

pub loop-i-init : goal.loop-i-init
loop-i-init c = added-start _ _

pub loop-i-preserved : goal.loop-i-preserved
loop-i-preserved c = added_next _ c.loop-i.invariant (omega arith) c.read_or.ensures (omega arith)

pub returns : goal.returns
returns c = added-end c.loop-i.invariant (omega arith)
