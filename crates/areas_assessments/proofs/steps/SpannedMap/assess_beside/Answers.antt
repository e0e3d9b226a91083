use mathlib.Core.Path.{ap}
use Prim.Native.Nat.{◌+◌, ◌-◌}
use native.Mathlib.Omega.{arith}
use Rattle.grid.specs.Cells.{map_of}
use Rattle.grid.specs.Directions.{directions_of}
use Rattle.areas_assessments.specs.Visits.{cut_from}
use Rattle.areas_assessments.proofs.Advancing.{going_start, going-room, going_next, going_end, grown-more, advance-as}
use Rattle.areas_assessments.proofs.Placing.{limit-small, beside-small, place_in, place-cell, last-in, beside-is}
use Rattle.areas_assessments.proofs.steps.SpannedMap.assess_beside.Goals as goal

pub strip_minor-range-requires : goal.strip_minor-range-requires
strip_minor-range-requires c =
    (c.args.self.now.on_map.sides, c.args.self.now.on_map.span, limit-small c.args.self.now.on_map.sides c.args.self.now.span c.requires.0)

pub loop-cm-init : goal.loop-cm-init
loop-cm-init c =
    (omega arith, going_start _ _ _ 4096 c.requires.1)

pub assess_cell-done-requires : goal.assess_cell-done-requires
assess_cell-done-requires c =
    let span = c.args.self.now.span in
    let p = c.requires in
    let l = (last-in c.args.self.now.on_map.sides span _ c.strip_minor-range.ensures) in
    let b = beside-small c.args.self.now.on_map.sides span l in
    let e = c.place_of.ensures in
    let i = place_in c.args.self.now.width c.args.self.now.height c.args.self.now.cells.now span c.args.c c.loop-cm.cm
    c.is_tall-tall.ensures p.0 (omega (arith, l)) e.0 e.1 in
    (i.0, i.1, going-room _ _ c.loop-cm.invariant.1 4096 4 p.1 (omega arith))

pub overflow_add-cm-end : goal.overflow_add-cm-end
overflow_add-cm-end c =
    let b = beside-small c.args.self.now.on_map.sides c.args.self.now.span
    (last-in c.args.self.now.on_map.sides c.args.self.now.span _ c.strip_minor-range.ensures) in omega arith

pub loop-cm-preserved : goal.loop-cm-preserved
loop-cm-preserved c =
    let inv = c.loop-cm.invariant in
    let e = c.place_of.ensures in (
      omega (arith, inv.0, c.loop-cm-test.true),
      going_next _ _ inv.1 _ 4 (omega (arith, inv.1.reached)) c.assess_cell-done.auto.lefts
          c.assess_cell-done.auto.rights c.assess_cell-done.ensures.grown
          (advance-as _ (ap (cut_from _ _ _)
          (place-cell c.args.self.now.width c.args.self.now.height c.args.self.now.cells.now c.args.self.now.span c.args.c c.loop-cm.cm
          c.is_tall-tall.ensures e.0 e.1)) c.assess_cell-done.ensures.advances),
    )

pub shape_of-lefts : goal.shape_of-lefts
shape_of-lefts c = c.loop-cm.invariant.1.lefts-are

pub shape_of-rights : goal.shape_of-rights
shape_of-rights c = c.loop-cm.invariant.1.rights-are

pub returns : goal.returns
returns c =
    let map = c.args.self.now in
    let span = map.span in
    let l = last-in map.on_map.sides span _ c.strip_minor-range.ensures in
    let b = beside-small map.on_map.sides span l in
    let i = c.loop-cm.invariant in
    let range = c.strip_minor-range.result in
    record {
      grown = grown-more 4096 i.1.grown (omega (arith, i.0));
      advances =
          going_end _ _ i.1 (range.last + 1 - range.first) (omega (arith, i.0, i.1.reached, c.loop-cm-test.false))
          (beside-is (directions_of map.directions) (map_of map.width map.height map.cells.now) span c.args.c range c.strip_minor-range.ensures);
    }
