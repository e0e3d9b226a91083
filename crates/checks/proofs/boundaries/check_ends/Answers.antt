use mathlib.Core.Path.{◌∙◌, ap}
use Rattle.checks.proofs.Firsts.{clean-start, clean-next, clean_found, clean_end, skip, stop, clear-two, told}
use mathlib.Core.Bool.{Bool, ◌&&◌}
use Rattle.position.specs.Order.{pos_same}
use Rattle.format.specs.declared.records.BoundaryRecord.{BoundaryRecord}
use Rattle.checks.specs.Faults.{ends_fault}
use Rattle.checks.specs.Single.{ends_check, span_checks}
use Rattle.checks.proofs.boundaries.check_ends.Goals as goal

pub loop-i-init : goal.loop-i-init
loop-i-init c = clean-start _ _

pub returns-then-ends_fault : goal.returns-then-ends_fault
unfolding ends_check span_checks
returns-then-ends_fault c =
    clean_found c.loop-i.invariant c.loop-i-test.true
    (stop _ _ (told (λ (b : BoundaryRecord). ends_fault c.args.width c.args.height b.ends)
    c.read_boundary-b.ensures c.ends_fault.ensures c.if-ends_fault.true))

pub returns-then-distinct-coincides : goal.returns-then-distinct-coincides
unfolding ends_check span_checks
returns-then-distinct-coincides c =
    clean_found c.loop-i.invariant c.loop-i-test.true
    (skip _ _ (told (λ (b : BoundaryRecord). ends_fault c.args.width c.args.height b.ends)
    c.read_boundary-b.ensures c.ends_fault.ensures c.if-ends_fault.false)
    ∙ stop _ _ (told (λ (b : BoundaryRecord). c.args.distinct && pos_same b.ends.a b.ends.b) c.read_boundary-b.ensures
    (ap (λ (t : Bool). c.args.distinct && t) c.coincides.ensures) c.if-distinct-coincides.true))

pub loop-i-preserved : goal.loop-i-preserved
unfolding ends_check span_checks
loop-i-preserved c =
    clean-next c.loop-i.invariant c.loop-i-test.true
    (clear-two _ _ (told (λ (b : BoundaryRecord). ends_fault c.args.width c.args.height b.ends)
    c.read_boundary-b.ensures c.ends_fault.ensures c.if-ends_fault.false)
    (told (λ (b : BoundaryRecord). c.args.distinct && pos_same b.ends.a b.ends.b) c.read_boundary-b.ensures
    (ap (λ (t : Bool). c.args.distinct && t) c.coincides.ensures) c.if-distinct-coincides.false))

pub returns : goal.returns
returns c = clean_end c.loop-i.invariant c.loop-i-test.false
