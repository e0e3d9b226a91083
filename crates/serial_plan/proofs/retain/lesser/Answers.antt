use mathlib.Core.Path.{sym, ◌∙◌}
use Rattle.serial_plan.proofs.ValueLaws.{choose_yes, choose_no}
use Rattle.serial_plan.proofs.retain.lesser.Goals as goal

pub returns-then-total_le : goal.returns-then-total_le
returns-then-total_le c =
    (choose_yes c.args.a c.args.b (sym c.total_le.ensures ∙ c.if-total_le.true), c.requires.0)

pub returns-else-total_le : goal.returns-else-total_le
returns-else-total_le c =
    (choose_no c.args.a c.args.b (sym c.total_le.ensures ∙ c.if-total_le.false), c.requires.1)
