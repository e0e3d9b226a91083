use Rattle.format.specs.declared.header.Offsets.{Offsets}
use mathlib.Core.Bool.{not}
use Rattle.checks.specs.Faults.{same_offsets}
use mathlib.Core.Path.{sym, ◌∙◌}
use Rattle.checks.specs.Single.{header_checks}
use Rattle.checks.proofs.Firsts.{skip, stop, clear, told}
use Rattle.checks.proofs.Words.{within}
use Rattle.checks.proofs.header.check_header.Goals as goal

pub returns-then-size_fault : goal.returns-then-size_fault
unfolding header_checks
returns-then-size_fault c = sym (stop _ _ (sym c.size_fault.ensures ∙ c.if-size_fault.true))

pub returns-then-count_fault : goal.returns-then-count_fault
unfolding header_checks
returns-then-count_fault c =
    sym (skip _ _ (sym c.size_fault.ensures ∙ c.if-size_fault.false)
    ∙ stop _ _ (sym c.count_fault.ensures ∙ c.if-count_fault.true))

pub returns-then-boundary_count_fault : goal.returns-then-boundary_count_fault
unfolding header_checks
returns-then-boundary_count_fault c =
    sym (skip _ _ (sym c.size_fault.ensures ∙ c.if-size_fault.false)
    ∙ skip _ _ (sym c.count_fault.ensures ∙ c.if-count_fault.false)
    ∙ stop _ _ (sym c.boundary_count_fault.ensures ∙ c.if-boundary_count_fault.true))

pub offsets_of-requires : goal.offsets_of-requires
offsets_of-requires c =
    within _ (sym c.size_fault.ensures ∙ c.if-size_fault.false) (sym c.count_fault.ensures ∙ c.if-count_fault.false)
    (sym c.boundary_count_fault.ensures ∙ c.if-boundary_count_fault.false)

pub returns-then-ne : goal.returns-then-ne
unfolding header_checks
returns-then-ne c =
    sym (skip _ _ (sym c.size_fault.ensures ∙ c.if-size_fault.false)
    ∙ skip _ _ (sym c.count_fault.ensures ∙ c.if-count_fault.false)
    ∙ skip _ _ (sym c.boundary_count_fault.ensures ∙ c.if-boundary_count_fault.false)
    ∙ stop _ _ (told (λ (p : Offsets). not (same_offsets c.args.h.offsets p)) c.offsets_of.ensures c.ne.ensures c.if-ne.true))

pub returns : goal.returns
unfolding header_checks
returns c =
    sym (skip _ _ (sym c.size_fault.ensures ∙ c.if-size_fault.false)
    ∙ skip _ _ (sym c.count_fault.ensures ∙ c.if-count_fault.false)
    ∙ skip _ _ (sym c.boundary_count_fault.ensures ∙ c.if-boundary_count_fault.false)
    ∙ clear _ (told (λ (p : Offsets). not (same_offsets c.args.h.offsets p)) c.offsets_of.ensures c.ne.ensures c.if-ne.false))
