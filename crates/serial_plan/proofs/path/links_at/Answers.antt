use mathlib.Core.Path.{refl, ◌∙◌, ap}
use native.Mathlib.Omega.{arith}
use Rattle.serial_plan.specs.Arrays.{joins_at}
use Rattle.serial_plan.proofs.FewLaws.{noted-start, noted-room, noted-next}
use Rattle.serial_plan.proofs.ShapeLaws.{noted-listed}
use Rattle.serial_plan.proofs.path.links_at.Goals as goal

pub loop-j-init : goal.loop-j-init
loop-j-init c = (omega arith, noted-start refl)

pub with-found-requires : goal.with-found-requires
with-found-requires c =
    noted-room c.loop-j.invariant.1 c.requires.0

pub loop-j-preserved : goal.loop-j-preserved
loop-j-preserved c =
    let start = c.args in
    let joining = joins_at start.t.now.firsts.now start.t.now.seconds.now start.i in (
      omega (arith, c.loop-j.invariant.0),
      noted-next c.loop-j.invariant.1 c.loop-j-test.true c.loop-j.invariant.0 c.with-found.ensures
          (c.joins.ensures ∙ ap joining c.index-k.ensures.0) c.get.ensures,
    )

pub returns : goal.returns
returns c =
    let start = c.args in
    noted-listed start.links c.loop-j.invariant.1 (omega (arith, c.loop-j-test.false))
