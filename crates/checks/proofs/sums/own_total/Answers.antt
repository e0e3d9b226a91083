use native.Mathlib.Omega.{arith}
use Rattle.format.specs.Decode.{boundary_records}
use Rattle.format.specs.declared.records.BoundaryRecord.{BoundaryRecord}
use Rattle.checks.proofs.Adding.{added-start, added_next, added-all}
use Rattle.checks.proofs.sums.own_total.Goals as goal

pub loop-i-init : goal.loop-i-init
loop-i-init c = added-start _ _

pub loop-i-preserved : goal.loop-i-preserved
loop-i-preserved c = added_next _ c.loop-i.invariant (omega arith) (cc) (omega arith)

pub returns : goal.returns
unfolding boundary_records
returns c =
    let inv = c.loop-i.invariant in (added-all (λ (r : BoundaryRecord). r.sources) inv c.loop-i-test.false, omega (arith, inv.small, inv.below))
