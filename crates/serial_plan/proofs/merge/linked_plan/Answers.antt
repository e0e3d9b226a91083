use Rattle.serial_plan.proofs.PlanLaws.{plan-of}
use Rattle.serial_plan.proofs.merge.linked_plan.Goals as goal

pub returns : goal.returns
returns c =
    plan-of c.requires.1.fit.few c.requires.1.some c.requires.1.fit.ranked c.serial_plan.ensures
    c.flat_plan.ensures c.combine.ensures
