use native.Mathlib.Omega.{arith}
use Rattle.serial_plan.proofs.PlanLaws.{plan-unlinked}
use Rattle.serial_plan.proofs.merge.merge_plan.Goals as goal

pub returns-then-t-eq0-2 : goal.returns-then-t-eq0-2
returns-then-t-eq0-2 c =
    plan-unlinked c.start-then-t-eq0-2.ensures c.requires.1.few c.if-t-eq0-2.true

pub linked_plan-requires : goal.linked_plan-requires
linked_plan-requires c =
    let p = c.requires in
    (p.0, record { some = omega (arith, c.if-t-eq0.false); linked = omega (arith, c.if-t-eq0-2.false); fit = p.1 }, p.2)
