use mathlib.Core.Path.{refl}
use Rattle.serial_plan.proofs.ArrayLaws.{link-yes, link-no}
use Rattle.serial_plan.proofs.parts.join_link.Goals as goal

pub returns-then-on-ne1 : goal.returns-then-on-ne1
returns-then-on-ne1 c = link-no c.args.on c.args.first c.args.second c.args.parts.now c.if-on-ne1.true c.requires.0

pub returns : goal.returns
returns c =
    link-yes c.args.on c.args.first c.args.second c.args.first c.args.second c.args.parts.now c.if-on-ne1.false refl refl
    c.join_parts.ensures
