use mathlib.Core.Path.{◌∙◌}
use Rattle.checks.proofs.Firsts.{clean-start, clean-next, clean_found, clean_end, skip, stop, clear-two, told}
use Rattle.position.specs.Order.{pos_same}
use Rattle.position.specs.declared.Span.{Span}
use Rattle.checks.specs.Faults.{ends_fault}
use Rattle.checks.specs.Single.{span_check, span_checks}
use Rattle.checks.proofs.spans.check_spans.Goals as goal

pub loop-i-init : goal.loop-i-init
loop-i-init c = clean-start _ _

pub returns-then-ends_fault : goal.returns-then-ends_fault
unfolding span_check span_checks
returns-then-ends_fault c =
    clean_found c.loop-i.invariant c.loop-i-test.true
    (stop _ _ (told (λ (b : Span). ends_fault c.args.width c.args.height b) c.read_span-e.ensures
    c.ends_fault.ensures c.if-ends_fault.true))

pub returns-then-coincides : goal.returns-then-coincides
unfolding span_check span_checks
returns-then-coincides c =
    clean_found c.loop-i.invariant c.loop-i-test.true
    (skip _ _ (told (λ (b : Span). ends_fault c.args.width c.args.height b) c.read_span-e.ensures
    c.ends_fault.ensures c.if-ends_fault.false)
    ∙ stop _ _ (told (λ (b : Span). pos_same b.a b.b) c.read_span-e.ensures c.coincides.ensures c.if-coincides.true))

pub loop-i-preserved : goal.loop-i-preserved
unfolding span_check span_checks
loop-i-preserved c =
    clean-next c.loop-i.invariant c.loop-i-test.true
    (clear-two _ _ (told (λ (b : Span). ends_fault c.args.width c.args.height b) c.read_span-e.ensures
    c.ends_fault.ensures c.if-ends_fault.false)
    (told (λ (b : Span). pos_same b.a b.b) c.read_span-e.ensures c.coincides.ensures c.if-coincides.false))

pub returns : goal.returns
returns c = clean_end c.loop-i.invariant c.loop-i-test.false
