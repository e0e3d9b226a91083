use Rattle.checks.proofs.Firsts.{clean-start, clean-next, clean_found, clean_end, clear, stop, told}
use Rattle.format.specs.declared.records.BaseRecord.{BaseRecord}
use Rattle.checks.specs.Faults.{anchor_fault}
use Rattle.checks.specs.Single.{base_check}
use Rattle.checks.proofs.bases.check_bases.Goals as goal

pub loop-i-init : goal.loop-i-init
loop-i-init c = clean-start _ _

pub returns-then-anchor_fault : goal.returns-then-anchor_fault
unfolding base_check
returns-then-anchor_fault c =
    clean_found c.loop-i.invariant c.loop-i-test.true
    (stop _ _ (told (λ (b : BaseRecord). anchor_fault c.args.width c.args.height b.anchor) c.read_base-b.ensures
    c.anchor_fault.ensures c.if-anchor_fault.true))

pub loop-i-preserved : goal.loop-i-preserved
unfolding base_check
loop-i-preserved c =
    clean-next c.loop-i.invariant c.loop-i-test.true
    (clear _ (told (λ (b : BaseRecord). anchor_fault c.args.width c.args.height b.anchor) c.read_base-b.ensures
    c.anchor_fault.ensures c.if-anchor_fault.false))

pub returns : goal.returns
returns c = clean_end c.loop-i.invariant c.loop-i-test.false
