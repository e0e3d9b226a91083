use mathlib.Core.Path.{refl}
use native.Mathlib.Omega.{arith}
use Rattle.probe.proofs.PlanningLaws.{words-next}
use Rattle.probe.proofs.own_plan.write_plan.Goals as goal

pub loop-i-preserved : goal.loop-i-preserved
loop-i-preserved c =
    words-next _ _ c.requires.1 c.loop-i.invariant (omega arith) c.requires.3 refl refl c.write_u32.ensures
