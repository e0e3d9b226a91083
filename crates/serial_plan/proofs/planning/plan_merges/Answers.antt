use Rattle.serial_plan.proofs.ReadyLaws.{fit, planned}
use Rattle.serial_plan.proofs.planning.plan_merges.Goals as goal

pub merge_plan-requires : goal.merge_plan-requires
merge_plan-requires c =
    let p = c.requires in
    (p.0, fit p.1 c.measured_links-links.ensures.links.ranked, p.2)

pub returns : goal.returns
returns c =
    record { work = c.measured_links-links.ensures.work; plan = planned c.measured_links-links.ensures.links c.merge_plan.ensures }
