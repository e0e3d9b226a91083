use mathlib.Core.Path.{refl, sym, ◌∙◌, ap}
use Prim.Native.Nat.{◌-◌}
use native.Mathlib.Omega.{arith}
use mathlib.Core.Path.{subst}
use Rattle.serial_links.specs.HeldLimits.{limits_of}
use Rattle.serial_plan.specs.Shape.{alike_in}
use Rattle.serial_plan.specs.Fitting.{RankFits}
use Rattle.serial_plan.specs.Few.{few_at}
use Rattle.serial_plan.proofs.ShapeLaws.{each_start, each_next, each-listed}
use Rattle.serial_plan.proofs.alike.alike_to_all.Goals as goal

pub loop-j-init : goal.loop-j-init
loop-j-init c = (
  omega arith,
  each_start (alike_in (limits_of c.args.limits) c.args.own.now c.args.i) (few_at c.args.ranks)
      c.args.ranks.count,
)

pub alike-all-requires : goal.alike-all-requires
alike-all-requires c =
    (c.requires.0, subst (RankFits c.args.own.now) (sym c.index.ensures.0) (c.requires.1 (c.loop-j.j - 1)))

pub loop-j-preserved : goal.loop-j-preserved
loop-j-preserved c =
    let own = c.args.own.now in
    let limits = c.args.limits in
    let ranks = c.args.ranks in
    let i = c.args.i in (
      omega (arith, c.loop-j.invariant.0),
      each_next (alike_in (limits_of limits) own i) (few_at ranks) ranks.count c.alike-all.result c.loop-j.invariant.1 c.loop-j-test.true
          c.loop-j.invariant.0 (c.alike-all.ensures ∙ ap (alike_in (limits_of limits) own i) c.index.ensures.0) refl,
    )

pub returns : goal.returns
returns c =
    each-listed (alike_in (limits_of c.args.limits) c.args.own.now c.args.i) c.args.ranks c.loop-j.invariant.1
    (omega (arith, c.loop-j-test.false))
