use Prim.Native.Nat.{◌-◌, ◌<◌}
use native.Mathlib.Omega.{arith}
use Rattle.serial_plan.proofs.ArrayLaws.{marks-start, marks-next, marks-end}
use Rattle.serial_plan.proofs.parts.mark_joined.Goals as goal

pub loop-k-init : goal.loop-k-init
loop-k-init c = (omega arith, marks-start c.args.chosen.now c.args.t.now.firsts.now c.args.t.now.seconds.now c.args.t.now.links)

pub mark_link-requires : goal.mark_link-requires
mark_link-requires c =
    let l = c.loop-k in
    let p = c.requires in
    let on : l.k - 1 < c.args.t.now.links = omega (arith, l.invariant.0, c.loop-k-test.true) in
    (l.invariant.1.size, p.first-in (l.k - 1) on, p.second-in (l.k - 1) on)

pub loop-k-preserved : goal.loop-k-preserved
loop-k-preserved c =
    let l = c.loop-k in
    let a = c.args in (
      omega (arith, l.invariant.0),
      marks-next a.chosen.now a.t.now.firsts.now a.t.now.seconds.now a.t.now.links c.loop-k-test.true l.invariant.0 l.invariant.1
          c.mark_link.ensures,
    )

pub returns : goal.returns
returns c =
    let a = c.args in
    marks-end a.chosen.now a.t.now.firsts.now a.t.now.seconds.now a.t.now.links c.loop-k.invariant.1 (omega (arith, c.loop-k-test.false))
