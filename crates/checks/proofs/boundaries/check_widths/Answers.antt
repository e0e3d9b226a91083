use Rattle.checks.proofs.Firsts.{clean-start, clean-next, clean_found, clean_end, clear, stop, told}
use Rattle.format.specs.declared.records.BoundaryRecord.{BoundaryRecord}
use Rattle.checks.specs.Faults.{width_fault}
use Rattle.checks.specs.Single.{width_check}
use Rattle.checks.proofs.boundaries.check_widths.Goals as goal

pub loop-i-init : goal.loop-i-init
loop-i-init c = clean-start _ _

pub returns-then-width_fault : goal.returns-then-width_fault
unfolding width_check
returns-then-width_fault c =
    clean_found c.loop-i.invariant c.loop-i-test.true
    (stop _ _ (told (λ (b : BoundaryRecord). width_fault b.bits) c.read_boundary-b.ensures c.width_fault.ensures
    c.if-width_fault.true))

pub loop-i-preserved : goal.loop-i-preserved
unfolding width_check
loop-i-preserved c =
    clean-next c.loop-i.invariant c.loop-i-test.true
    (clear _ (told (λ (b : BoundaryRecord). width_fault b.bits) c.read_boundary-b.ensures c.width_fault.ensures
    c.if-width_fault.false))

pub returns : goal.returns
returns c = clean_end c.loop-i.invariant c.loop-i-test.false
