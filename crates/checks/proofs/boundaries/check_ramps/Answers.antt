use Rattle.checks.proofs.Firsts.{clean-start, clean-next, clean_found, clean_end, clear, stop, told}
use Rattle.format.specs.declared.records.BoundaryRecord.{BoundaryRecord}
use Rattle.checks.specs.Faults.{ramp_fault}
use Rattle.checks.specs.Single.{ramp_check}
use Rattle.checks.proofs.boundaries.check_ramps.Goals as goal

pub loop-i-init : goal.loop-i-init
loop-i-init c = clean-start _ _

pub returns-then-ramp_fault : goal.returns-then-ramp_fault
unfolding ramp_check
returns-then-ramp_fault c =
    clean_found c.loop-i.invariant c.loop-i-test.true
    (stop _ _ (told (λ (b : BoundaryRecord). ramp_fault b.ramp) c.read_boundary-b.ensures c.ramp_fault.ensures
    c.if-ramp_fault.true))

pub loop-i-preserved : goal.loop-i-preserved
unfolding ramp_check
loop-i-preserved c =
    clean-next c.loop-i.invariant c.loop-i-test.true
    (clear _ (told (λ (b : BoundaryRecord). ramp_fault b.ramp) c.read_boundary-b.ensures c.ramp_fault.ensures
    c.if-ramp_fault.false))

pub returns : goal.returns
returns c = clean_end c.loop-i.invariant c.loop-i-test.false
