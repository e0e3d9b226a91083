use native.Mathlib.Omega.{arith}
use lib.ListN.{length-set}
use Rattle.serial_ranks.proofs.Laws.{identity-next}
use Rattle.serial_ranks.proofs.fill_identity.Goals as goal

pub loop-i-preserved : goal.loop-i-preserved
loop-i-preserved c =
    let m = c.loop-i in
    record { whole = simp length-set m.invariant.whole; each = identity-next m.i m.order m.invariant.whole c.loop-i-test.true m.invariant.each }

pub returns : goal.returns
returns c = record { whole = c.loop-i.invariant.whole; each = λ k h. c.loop-i.invariant.each k (omega arith) }
