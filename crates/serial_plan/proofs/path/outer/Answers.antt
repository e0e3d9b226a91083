use mathlib.Core.Path.{ap}
use Prim.Native.Nat.{◌<◌}
use native.Mathlib.Omega.{arith}
use Rattle.serial_plan.specs.declared.path.Near.{Near}
use Rattle.serial_plan.specs.Arrays.{joins_at}
use Rattle.serial_plan.specs.Few.{few_list}
use Rattle.serial_plan.proofs.ShapeLaws.{kept-first}
use Rattle.serial_plan.proofs.ValueLaws.{outer-as}
use Rattle.serial_plan.proofs.path.outer.Goals as goal

pub bounds-t-near : goal.bounds-t-near
bounds-t-near c =
    let joining = joins_at c.args.t.now.firsts.now c.args.t.now.seconds.now c.args.i in
    omega (arith, kept-first (λ x. x < 256) joining c.args.links c.links_at-near.ensures c.requires.1 (omega arith))

pub returns : goal.returns
returns c =
    let start = c.args in
    outer-as start.t.now.lowers.now start.t.now.highers.now start.t.now.regions.now start.t.now.firsts.now start.t.now.seconds.now (few_list
    start.links) start.i
    (ap (λ (n : Near). n.first) c.links_at-near.ensures) c.other_region.ensures
