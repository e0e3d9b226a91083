use Rattle.serial_links.specs.HeldLimits.{limits_of}
use Rattle.analysis.proofs.drawing.plan_by_list.Goals as goal

pub returns : goal.returns
returns c =
    c.plan_unmatched.ensures (limits_of c.args.limits)
