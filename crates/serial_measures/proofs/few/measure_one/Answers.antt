use native.Mathlib.Omega.{arith}
use Rattle.serial_measures.proofs.Singly.{one-start, one-next, one_end}
use Rattle.serial_measures.proofs.few.measure_one.Goals as goal

pub loop-i-init : goal.loop-i-init
loop-i-init c = one-start _ _ _ _ _

pub loop-i-preserved : goal.loop-i-preserved
loop-i-preserved c =
    one-next _ _ c.args.labels.now c.args.n c.args.region c.loop-i.invariant c.loop-i-test.true c.read_u32-label.ensures c.counted-link.ensures

pub returns : goal.returns
returns c = one_end _ _ _ _ (omega arith) c.loop-i.invariant
