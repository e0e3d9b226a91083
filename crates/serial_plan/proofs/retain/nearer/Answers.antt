use mathlib.Core.Path.{sym, ◌∙◌}
use Rattle.serial_plan.specs.Few.{few_list}
use Rattle.serial_plan.proofs.ValueLaws.{choose_yes, choose_no, nearer-as}
use Rattle.serial_plan.proofs.retain.nearer.Goals as goal

pub returns-then-no_later : goal.returns-then-no_later
returns-then-no_later c =
    let j = c.args.j in
    let i = c.args.i in (
      choose_yes i j
          (sym
          (nearer-as c.args.own.now (few_list c.args.ranks) i j c.sum_from-x.ensures.0 c.sum_from-y.ensures.0
          c.no_later.ensures)
          ∙ c.if-no_later.true),
      c.requires.2,
    )

pub returns-else-no_later : goal.returns-else-no_later
returns-else-no_later c =
    let j = c.args.j in
    let i = c.args.i in (
      choose_no i j
          (sym
          (nearer-as c.args.own.now (few_list c.args.ranks) i j c.sum_from-x.ensures.0 c.sum_from-y.ensures.0
          c.no_later.ensures)
          ∙ c.if-no_later.false),
      c.requires.3,
    )
