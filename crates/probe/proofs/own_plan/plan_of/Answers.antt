use Rattle.probe.proofs.PlanningLaws.{plan-own, plan-listed}
use Rattle.probe.proofs.own_plan.plan_of.Goals as goal

pub returns-then-which-eq0 : goal.returns-then-which-eq0
returns-then-which-eq0 c =
    plan-own _ _ _ _ _ c.if-which-eq0.true c.plan_reduce.ensures

pub returns : goal.returns
returns c =
    plan-listed _ _ _ _ _ c.if-which-eq0.false c.plan_reduce_by_list.ensures
