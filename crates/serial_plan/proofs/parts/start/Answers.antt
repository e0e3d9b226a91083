use mathlib.Core.Path.{refl}
use Rattle.serial_plan.proofs.ArrayLaws.{filled_next}
use Rattle.serial_plan.proofs.parts.start.Goals as goal

pub loop-i-preserved : goal.loop-i-preserved
loop-i-preserved c = filled_next c.loop-i.i c.loop-i.invariant c.loop-i-test.true refl
