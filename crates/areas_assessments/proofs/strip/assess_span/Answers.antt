use mathlib.Core.List.{[]}
use Prim.Native.Nat.{◌+◌, ◌-◌}
use native.Mathlib.Omega.{arith}
use Rattle.grid.specs.Cells.{map_of}
use Rattle.grid.specs.Directions.{directions_of}
use Rattle.areas_assessments.proofs.Advancing.{going_start, going-room, going_next, going_end}
use Rattle.areas_assessments.proofs.Placing.{limit-small, last-along, along-is, holds-none, holds_as, room-start}
use Rattle.areas_assessments.proofs.Strips.{strip-assessed}
use Rattle.areas_assessments.proofs.strip.assess_span.Goals as goal

pub invariant_of-map : goal.invariant_of-map
invariant_of-map c = record { on_map = c.requires.0 }

pub strip_axis-range-requires : goal.strip_axis-range-requires
strip_axis-range-requires c =
    (c.requires.0.sides, c.requires.0.span)

pub loop-c-init : goal.loop-c-init
loop-c-init c =
    (omega arith, going_start _ _ _ 4194304 (room-start c.requires.1 c.requires.2 c.requires.3))

pub assess_beside-done-requires : goal.assess_beside-done-requires
assess_beside-done-requires c =
    let span = c.args.span in
    let p = c.requires in
    let b = limit-small c.requires.0.sides span (last-along c.requires.0.sides span c.strip_axis-range.ensures) in (
      omega (arith, last-along c.requires.0.sides span c.strip_axis-range.ensures),
      going-room _ _ c.loop-c.invariant.1 4194304 4096 (room-start p.1 p.2 p.3) (omega (arith, c.loop-c-test.true)),
    )

pub overflow_add-c-end : goal.overflow_add-c-end
overflow_add-c-end c =
    let b = limit-small c.requires.0.sides c.args.span
    (last-along c.requires.0.sides c.args.span c.strip_axis-range.ensures) in omega arith

pub loop-c-preserved : goal.loop-c-preserved
loop-c-preserved c =
    let inv = c.loop-c.invariant in (
      omega (arith, inv.0, c.loop-c-test.true),
      going_next _ _ inv.1 _ 4096 (omega (arith, inv.1.reached)) c.assess_beside-done.auto.lefts
          c.assess_beside-done.auto.rights c.assess_beside-done.ensures.grown
          c.assess_beside-done.ensures.advances,
    )

pub shape_of-lefts : goal.shape_of-lefts
shape_of-lefts c = c.loop-c.invariant.1.lefts-are

pub shape_of-rights : goal.shape_of-rights
shape_of-rights c = c.loop-c.invariant.1.rights-are

pub returns : goal.returns
returns c =
    let p = c.requires in
    let i = c.loop-c.invariant in
    let a = going_end _ _ i.1 (c.strip_axis-range.result.last + 1 - c.strip_axis-range.result.first)
    (omega (arith, i.0, i.1.reached, c.loop-c-test.false))
    (along-is (directions_of c.args.directions) (map_of c.args.width c.args.height c.args.cells.now) c.args.span
    c.strip_axis-range.result c.strip_axis-range.ensures) in
    holds_as (strip-assessed _ c.args.directions (map_of c.args.width c.args.height c.args.cells.now) p.0.whole
    p.0.sides c.args.span p.0.span.ordered) (a _ _ [] (holds-none _ _ _ p.1))
