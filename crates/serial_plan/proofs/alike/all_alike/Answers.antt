use mathlib.Core.Path.{refl, sym, ◌∙◌, ap}
use Prim.Native.Nat.{◌-◌}
use native.Mathlib.Omega.{arith}
use mathlib.Core.Path.{subst}
use Rattle.serial_links.specs.HeldLimits.{limits_of}
use Rattle.order.specs.Tests.{every}
use Rattle.serial_plan.specs.Shape.{alike_in}
use Rattle.serial_plan.specs.Fitting.{RankFits}
use Rattle.serial_plan.specs.Few.{few_at, few_list}
use Rattle.serial_plan.proofs.ShapeLaws.{each_start, each_next}
use Rattle.serial_plan.proofs.ValueLaws.{all-alike-whole}
use Rattle.serial_plan.proofs.alike.all_alike.Goals as goal

pub loop-j-init : goal.loop-j-init
loop-j-init c =
    let ranks = c.args.ranks in
    (omega arith, each_start (λ i. every (alike_in (limits_of c.args.limits) c.args.own.now i) (few_list ranks)) (few_at ranks) ranks.count)

pub alike_to_all-all-requires : goal.alike_to_all-all-requires
alike_to_all-all-requires c =
    (subst (RankFits c.args.own.now) (sym c.index.ensures.0) (c.requires (c.loop-j.j - 1)), c.requires)

pub loop-j-preserved : goal.loop-j-preserved
loop-j-preserved c =
    let own = c.args.own.now in
    let limits = c.args.limits in
    let ranks = c.args.ranks in (
      omega (arith, c.loop-j.invariant.0),
      each_next (λ i. every (alike_in (limits_of limits) own i) (few_list ranks)) (few_at ranks) ranks.count c.alike_to_all-all.result
          c.loop-j.invariant.1
          c.loop-j-test.true c.loop-j.invariant.0
          (c.alike_to_all-all.ensures ∙ ap (λ i. every (alike_in (limits_of limits) own i) (few_list ranks)) c.index.ensures.0) refl,
    )

pub returns : goal.returns
returns c =
    all-alike-whole (limits_of c.args.limits) c.args.own.now c.args.ranks c.loop-j.invariant.1
    (omega (arith, c.loop-j-test.false))
