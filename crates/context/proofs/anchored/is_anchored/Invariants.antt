use Rattle.std.proofs.Common.{◌≡◌, take}
use Rattle.order.specs.Lists.{has}
use Rattle.context.proofs.anchored.is_anchored.Given as goal

abbrev pub invariant-loop-anchor : goal.invariant-loop-anchor
invariant-loop-anchor l = l.found ≡ has l.region (take l.anchor-index l.anchors)
