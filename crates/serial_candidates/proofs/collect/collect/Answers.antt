use mathlib.Core.Path.{◌≡◌, refl, sym, ◌∙◌}
use native.Mathlib.Omega.{arith}
use Rattle.serial_candidates.specs.Found.{given}
use Rattle.serial_candidates.proofs.CollectLaws.{collected-start, above, has_room, collected-next, collected-all, less-left}
use Rattle.serial_candidates.proofs.collect.collect.Goals as goal

pub loop-region-init : goal.loop-region-init
loop-region-init c =
    let a = c.args in
    let d = given a.anchors.now a.own.now a.linkables.now a.lowers.now a.highers.now a.owners.now a.lefts.now a.rights.now a.records in
    let e = c.next_region-region.ensures in
    record { next = e.0; small = e.1; collected = collected-start d a.n c.requires.3 256 refl }

pub consider-count-requires : goal.consider-count-requires
consider-count-requires c =
    let a = c.args in
    let d = given a.anchors.now a.own.now a.linkables.now a.lowers.now a.highers.now a.owners.now a.lefts.now a.rights.now a.records in
    let m = c.loop-region in
    let p = c.requires in
    let later = above d a.n m.invariant.next c.loop-region-test.true in
    (p.0, p.1, p.2, p.3, has_room d a.n p.3 p.0 m.invariant.collected m.region later)

pub loop-region-smaller : goal.loop-region-smaller
loop-region-smaller c =
    let a = c.args in
    let d = given a.anchors.now a.own.now a.linkables.now a.lowers.now a.highers.now a.owners.now a.lefts.now a.rights.now a.records in
    less-left d a.n c.loop-region-test.true c.loop-region.invariant.small c.next_region-region-in-loop-region.ensures.0

pub loop-region-preserved : goal.loop-region-preserved
loop-region-preserved c =
    let inv = c.loop-region.invariant in
    let e = c.next_region-region-in-loop-region.ensures in
    record {
      next = e.0;
      small = e.1;
      collected = collected-next c.requires.3 c.requires.0 inv.collected inv.next (omega (arith, c.loop-region-test.true)) c.consider-count.ensures;
    }

pub returns : goal.returns
returns c =
    let m = c.loop-region in
    let none : m.region ≡ 0 = omega (arith, c.loop-region-test.false) in
    collected-all c.requires.3 c.requires.0 m.invariant.collected (sym m.invariant.next ∙ none)
