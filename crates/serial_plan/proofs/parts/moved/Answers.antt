use Rattle.serial_plan.proofs.ArrayLaws.{pick_yes, pick_no}
use Rattle.serial_plan.proofs.parts.moved.Goals as goal

pub returns-then-c-high : goal.returns-then-c-high
returns-then-c-high c = pick_yes c.args.c c.args.high c.args.low c.if-c-high.true

pub returns-else-c-high : goal.returns-else-c-high
returns-else-c-high c = pick_no c.args.c c.args.high c.args.low c.if-c-high.false
