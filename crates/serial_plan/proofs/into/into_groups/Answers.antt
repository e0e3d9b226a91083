use native.Mathlib.Omega.{arith}
use Rattle.serial_plan.proofs.ArrayLaws.{filled_next}
use Rattle.serial_plan.proofs.into.into_groups.Goals as goal

pub loop-i-preserved : goal.loop-i-preserved
loop-i-preserved g c = (
  omega (arith, c.loop-i-test.true),
  filled_next c.one_into.result c.loop-i.invariant.1 (omega (arith, c.loop-i-test.true, c.requires.1.fit.few)) c.one_into.ensures,
)
