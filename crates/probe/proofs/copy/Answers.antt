use Rattle.std.proofs.Common.{refl, arith}
use borrow.Author.Tests.{lt-ltb}
use Rattle.probe.specs.Probe.{put_first}
use Rattle.probe.proofs.WritingLaws.{started-next, started-end}
use Rattle.probe.proofs.copy.Goals as goal

pub returns-then-out-n : goal.returns-then-out-n
unfolding put_first
returns-then-out-n c = (refl, rw (lt-ltb _ _ c.if-out-n.true))

pub loop-k-init : goal.loop-k-init
loop-k-init c = record { below = omega arith; begun = refl; same = refl }

pub loop-k-preserved : goal.loop-k-preserved
loop-k-preserved c = started-next c.loop-k.invariant (omega arith) c.if-out-n.false

pub returns : goal.returns
returns c = (refl, started-end c.loop-k.invariant (omega arith) c.if-out-n.false)
