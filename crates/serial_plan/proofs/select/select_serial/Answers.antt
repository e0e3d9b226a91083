use native.Mathlib.Omega.{arith}
use Rattle.serial_plan.proofs.ArrayLaws.{filled_next, test-mark}
use Rattle.serial_plan.proofs.select.select_serial.Goals as goal

pub loop-k-preserved : goal.loop-k-preserved
loop-k-preserved c = (
  omega (arith, c.loop-k-test.true),
  filled_next c.from.result c.loop-k.invariant.1 (omega (arith, c.loop-k-test.true, c.requires.1.few)) (test-mark c.from.ensures c.both_on.ensures),
)
