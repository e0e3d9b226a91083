use mathlib.Core.Path.{refl}
use Rattle.serial_plan.proofs.ArrayLaws.{mark-yes, mark-no}
use Rattle.serial_plan.proofs.parts.mark_link.Goals as goal

pub returns-then-on-ne1 : goal.returns-then-on-ne1
returns-then-on-ne1 c =
    let a = c.args in
    mark-no a.on a.first a.second a.joined.now c.if-on-ne1.true c.requires.0

pub returns : goal.returns
returns c =
    let a = c.args in
    mark-yes a.on a.first a.second a.joined.now c.if-on-ne1.false refl refl c.requires.0
    c.requires.1 c.requires.2
