use Rattle.std.proofs.Common.{arith}
use Rattle.answer_text.proofs.Spelling.{counted_start, counted_next, counted-end}
use Rattle.answer_text.proofs.digits.places.Goals as goal

pub loop-rest-init : goal.loop-rest-init
loop-rest-init c = counted_start _

pub loop-rest-preserved : goal.loop-rest-preserved
loop-rest-preserved c = counted_next c.loop-rest.invariant (omega arith)

pub returns : goal.returns
returns c = counted-end c.loop-rest.invariant (omega arith)
