use mathlib.Core.Path.{sym, ◌∙◌, ap}
use Prim.Native.Nat.{◌-◌}
use native.Mathlib.Omega.{arith}
use mathlib.Core.Path.{subst}
use Rattle.serial_links.specs.HeldLimits.{limits_of}
use Rattle.serial_plan.specs.Shape.{fine_in}
use Rattle.serial_plan.specs.Fitting.{WidthFits}
use Rattle.serial_plan.proofs.FewLaws.{picked-start, picked-room, picked_next}
use Rattle.serial_plan.proofs.ShapeLaws.{picked-listed}
use Rattle.serial_plan.proofs.retain.eligible.Goals as goal

pub loop-j-init : goal.loop-j-init
loop-j-init c = (omega arith, picked-start c.none-found.ensures)

pub is_eligible-requires : goal.is_eligible-requires
is_eligible-requires c =
    subst (WidthFits c.args.bits.now) (sym c.index.ensures.0) (c.requires.1 (c.loop-j.j - 1))

pub with-found-requires : goal.with-found-requires
with-found-requires c =
    picked-room c.loop-j.invariant.1 c.requires.0

pub loop-j-preserved : goal.loop-j-preserved
loop-j-preserved c =
    let inv = c.loop-j.invariant in
    let a = c.args in (
      omega (arith, inv.0),
      picked_next inv.1 c.loop-j-test.true inv.0 c.with-found.ensures
          (c.is_eligible.ensures ∙ ap (fine_in (limits_of a.limits) a.bits.now a.least) c.index.ensures.0) c.get.ensures,
    )

pub returns : goal.returns
returns c = picked-listed c.args.ranks c.loop-j.invariant.1 (omega (arith, c.loop-j-test.false))
