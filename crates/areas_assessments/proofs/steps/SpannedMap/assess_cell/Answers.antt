use mathlib.Core.Path.{refl}
use Prim.Native.Nat.{◌-◌}
use native.Mathlib.Omega.{arith}
use Rattle.areas_assessments.specs.Visits.{cut_from}
use Rattle.areas_assessments.proofs.Advancing.{going_start, going-room, going_next, going_end, grown-more}
use Rattle.areas_assessments.proofs.steps.SpannedMap.assess_cell.Goals as goal

pub loop-d-init : goal.loop-d-init
loop-d-init c =
    (omega arith, going_start _ _ _ 4 c.requires.2)

pub assess_step-done-requires : goal.assess_step-done-requires
assess_step-done-requires c =
    let p = c.requires in (p.0, p.1, omega arith, going-room _ _ c.loop-d.invariant.1 4 1 p.2 (omega arith))

pub loop-d-preserved : goal.loop-d-preserved
loop-d-preserved c =
    let inv = c.loop-d.invariant in (
      omega arith,
      going_next _ _ inv.1 _ 1 (omega (arith, inv.1.reached)) c.assess_step-done.auto.lefts
          c.assess_step-done.auto.rights c.assess_step-done.ensures.grown c.assess_step-done.ensures.advances,
    )

pub shape_of-lefts : goal.shape_of-lefts
shape_of-lefts c = c.loop-d.invariant.1.lefts-are

pub shape_of-rights : goal.shape_of-rights
shape_of-rights c = c.loop-d.invariant.1.rights-are

pub returns : goal.returns
unfolding cut_from
returns c =
    let inv = c.loop-d.invariant in
    record { grown = grown-more 4 inv.1.grown (omega arith); advances = going_end _ _ inv.1 4 (omega arith) refl }
