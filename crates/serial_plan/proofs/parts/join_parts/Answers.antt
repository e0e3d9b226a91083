use Rattle.serial_plan.proofs.ArrayLaws.{mapped_next, mapped-all, join-as}
use Rattle.serial_plan.proofs.parts.join_parts.Goals as goal

pub loop-i-preserved : goal.loop-i-preserved
loop-i-preserved c =
    mapped_next c.moved.result c.loop-i.invariant c.loop-i-test.true c.moved.ensures

pub returns : goal.returns
returns c =
    join-as c.args.a c.args.b c.min-low.result c.max-high.result c.args.parts.now
    c.min-low.ensures c.max-high.ensures (mapped-all c.loop-i.invariant c.loop-i-test.false)
