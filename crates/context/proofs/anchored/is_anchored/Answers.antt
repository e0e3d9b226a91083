use Rattle.std.proofs.Common.{refl, arith}
use Rattle.order.specs.Lists.{has}
use Rattle.context.proofs.Bases.{has-next, has_all}
use Rattle.context.proofs.anchored.is_anchored.Goals as goal

pub loop-anchor-init : goal.loop-anchor-init
unfolding has
loop-anchor-init c = refl

pub loop-anchor-preserved : goal.loop-anchor-preserved
loop-anchor-preserved c = has-next c.args.region c.args.anchors.now c.loop-anchor.anchor-index c.loop-anchor-test.true c.loop-anchor.invariant

pub returns : goal.returns
returns c = has_all c.args.region c.args.anchors.now (omega arith) c.loop-anchor.invariant
