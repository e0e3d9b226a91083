use Rattle.serial_plan.specs.Into.{group_into}
use Rattle.serial_plan.proofs.IntoLaws.{no-group, one-group, goes-together}
use native.Mathlib.Omega.{arith}
use Rattle.serial_plan.proofs.into.one_into.Goals as goal

pub returns-then-g-i-ne1 : goal.returns-then-g-i-ne1
unfolding group_into
returns-then-g-i-ne1 g c = no-group _ c.if-g-i-ne1.true

pub returns-then-e-i : goal.returns-then-e-i
returns-then-e-i g c =
    let e = c.judged_before-e in
    goes-together _ _ _ _ _ _ _ _ _ _ e.result _ e.ensures.1 e.ensures.2 (c.requires.3.each e.result (omega (arith, c.if-e-i.true)))

pub returns : goal.returns
unfolding group_into
returns g c = one-group c.if-g-i-ne1.false c.judge.ensures.0
