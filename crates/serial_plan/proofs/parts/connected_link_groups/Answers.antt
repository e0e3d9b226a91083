use Prim.Native.Nat.{◌-◌, ◌<◌}
use native.Mathlib.Omega.{arith}
use Rattle.serial_plan.proofs.ArrayLaws.{parts-start, parts_next, parts-end}
use Rattle.serial_plan.proofs.parts.connected_link_groups.Goals as goal

pub loop-k-init : goal.loop-k-init
loop-k-init c =
    (omega arith, parts-start c.args.chosen.now c.args.t.now.firsts.now c.args.t.now.seconds.now c.args.t.now.links c.start.ensures)

pub join_link-requires : goal.join_link-requires
join_link-requires c =
    let inv = c.loop-k.invariant in
    let l : c.loop-k.k - 1 < c.args.t.now.links = omega (arith, inv.0, c.loop-k-test.true) in
    (inv.1.size, c.requires.1.first-in (c.loop-k.k - 1) l, c.requires.1.second-in (c.loop-k.k - 1) l)

pub loop-k-preserved : goal.loop-k-preserved
loop-k-preserved c =
    let inv = c.loop-k.invariant in
    let l : c.loop-k.k - 1 < c.args.t.now.links = omega (arith, inv.0, c.loop-k-test.true) in (
      omega (arith, inv.0),
      parts_next c.args.chosen.now c.args.t.now.firsts.now c.args.t.now.seconds.now c.args.t.now.links
          c.loop-k-test.true inv.0 (c.requires.1.first-in (c.loop-k.k - 1) l) (c.requires.1.second-in (c.loop-k.k - 1) l) inv.1
          c.join_link.ensures,
    )

pub returns : goal.returns
returns c =
    parts-end c.args.chosen.now c.args.t.now.firsts.now c.args.t.now.seconds.now c.args.t.now.links c.loop-k.invariant.1
    (omega (arith, c.loop-k-test.false))
