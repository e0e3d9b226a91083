use mathlib.Core.Path.{refl, ap}
use Prim.Native.Nat.{ℕ, ◌*◌}
use native.Mathlib.Omega.{arith}
use Rattle.chokes.proofs.Finishing.{leads-eight, left-eight}
use Rattle.probe.specs.Planning.{refused, short, planned}
use Rattle.probe.proofs.PlanningLaws.{few-000, plan-count, made-parting, made-ranked, made_inside, made-placed}
use Rattle.probe.proofs.own_plan.probe_plan.Goals as goal

pub plan_of-r-requires : goal.plan_of-r-requires
plan_of-r-requires c = (few-000 c.of_000.ensures, leads-eight)

pub returns-then-r-gt0 : goal.returns-then-r-gt0
returns-then-r-gt0 c =
    let left = left-eight c.of_000.ensures c.plan_of-r.ensures in
    refused c.if-r-gt0.true (left.refused c.if-r-gt0.true) refl

pub returns-then-out-total : goal.returns-then-out-total
returns-then-out-total c =
    let a = c.args in
    let made = (left-eight c.of_000.ensures c.plan_of-r.ensures).made (omega (arith, c.if-r-gt0.false)) in
    let k = plan-count a.which a.job.now a.list.now (λ i. (c.type_inv.job i).fits) made.passed c.count_of-n.ensures in
    short (made-parting made) (omega (arith, c.if-out-total.true, k)) refl (ap (λ (x : ℕ). 4 * x) k) refl

pub write_plan-requires : goal.write_plan-requires
write_plan-requires c =
    let a = c.args in
    let made = (left-eight c.of_000.ensures c.plan_of-r.ensures).made (omega (arith, c.if-r-gt0.false)) in
    let k = plan-count a.which a.job.now a.list.now (λ i. (c.type_inv.job i).fits) made.passed c.count_of-n.ensures in
    (c.count_of-n.ensures.few, made-ranked made k, made_inside made k, c.if-out-total.false)

pub returns : goal.returns
returns c =
    let a = c.args in
    let made = (left-eight c.of_000.ensures c.plan_of-r.ensures).made (omega (arith, c.if-r-gt0.false)) in
    let k = plan-count a.which a.job.now a.list.now (λ i. (c.type_inv.job i).fits) made.passed c.count_of-n.ensures in
    planned (made-parting made) (omega (arith, c.if-out-total.false, k)) refl (ap (λ (x : ℕ). 4 * x) k) (made-placed made k c.write_plan.ensures)
