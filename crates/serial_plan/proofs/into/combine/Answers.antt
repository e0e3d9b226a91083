use native.Mathlib.Omega.{arith}
use Rattle.serial_plan.proofs.ArrayLaws.{filled_next}
use Rattle.serial_plan.proofs.into.combine.Goals as goal

pub loop-i-preserved : goal.loop-i-preserved
loop-i-preserved c = (
  omega (arith, c.loop-i-test.true),
  filled_next c.goes_to.result c.loop-i.invariant.1 (omega (arith, c.loop-i-test.true, c.requires.0)) c.goes_to.ensures,
)
