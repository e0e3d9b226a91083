use mathlib.Core.Path.{refl, ap}
use native.Mathlib.Omega.{arith}
use Rattle.serial_plan.specs.Arrays.{is_on}
use Rattle.serial_plan.specs.Few.{few_at}
use Rattle.serial_plan.proofs.ShapeLaws.{each_start, each_next, each-listed}
use Rattle.serial_plan.proofs.path.all_on.Goals as goal

pub loop-j-init : goal.loop-j-init
loop-j-init c = (omega arith, each_start (is_on c.args.marks.now) (few_at c.args.links) c.args.links.count)

pub loop-j-preserved : goal.loop-j-preserved
loop-j-preserved c =
    let marks = c.args.marks.now in
    let links = c.args.links in (
      omega (arith, c.loop-j.invariant.0),
      each_next (is_on marks) (few_at links) links.count (is_on marks c.index.result) c.loop-j.invariant.1 c.loop-j-test.true
          c.loop-j.invariant.0 (ap (is_on marks) c.index.ensures.0) refl,
    )

pub returns : goal.returns
returns c =
    each-listed (is_on c.args.marks.now) c.args.links c.loop-j.invariant.1 (omega (arith, c.loop-j-test.false))
