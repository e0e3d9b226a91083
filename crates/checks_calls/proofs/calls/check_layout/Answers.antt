use mathlib.Core.Path.{◌≡◌, sym, ◌∙◌, ap}
use mathlib.Core.Bool.{not}
use mathlib.Core.List.{List, [], ◌∷◌}
use mathlib.Core.Option.{Option, none}
use Prim.Native.Nat.{ℕ, ◌≤◌}
use borrow.Author.Tests.{lt-ltb, le-ltb, eq-eqb, ne_eqb}
use lib.Dec.{eqb}
use lib.ListN.{length}
use Rattle.format.specs.Sizes.{header_size}
use Rattle.format.specs.Header.{header_at}
use Rattle.format.specs.declared.header.Header.{Header}
use Rattle.checks.specs.Numbers.{bad_layout}
use Rattle.checks.specs.Checks.{Refusal, check, first_refusal}
use Rattle.checks.specs.Single.{header_checks}
use Rattle.checks_calls.specs.Refusals.{layout_checks}
use Rattle.checks.proofs.Firsts.{skip, stop, clear, append-none}
use Rattle.checks_calls.proofs.Passing.{stopped}
use Rattle.checks_calls.proofs.calls.check_layout.Goals as goal

-- what the header's checks answer, of the header that stands in the job
header-told : (s : List ℕ) {h : Header} {o : Option Refusal} → h ≡ header_at s → o ≡ first_refusal (header_checks h)
    → o ≡ first_refusal (header_checks (header_at s))
header-told s k e = e ∙ ap (λ (h : Header). first_refusal (header_checks h)) k

-- past the length and the header
past-header : (s : List ℕ) {h : Header} → h ≡ header_at s → header_size ≤ length s → none ≡ first_refusal (header_checks h)
    → first_refusal (layout_checks s) ≡ first_refusal (check (not (eqb (length s) h.offsets.total)) bad_layout 0 ∷ [])
unfolding layout_checks
past-header s k l e =
    skip _ _ (le-ltb _ _ l) ∙ append-none _ _ (sym (header-told s k e))
    ∙ ap (λ (h : Header). first_refusal (check (not (eqb (length s) h.offsets.total)) bad_layout 0 ∷ [])) (sym k)

pub returns-then-job-lt-HEADER_SIZE : goal.returns-then-job-lt-HEADER_SIZE
unfolding layout_checks
returns-then-job-lt-HEADER_SIZE c = sym (stop _ _ (lt-ltb _ _ c.if-job-lt-HEADER_SIZE.true))

pub returns-in_err-check_header : goal.returns-in_err-check_header
unfolding layout_checks
returns-in_err-check_header c =
    stopped _ _ _ _ c.from_residual.ensures.1 (header-told _ c.read_header-h.ensures c.in_err-check_header.ensures)
    ∙ sym (skip _ _ (le-ltb _ _ c.if-job-lt-HEADER_SIZE.false))

pub returns-then-job-h : goal.returns-then-job-h
returns-then-job-h c =
    sym (past-header _ c.read_header-h.ensures c.if-job-lt-HEADER_SIZE.false c.in_ok-check_header.ensures
    ∙ stop _ _ (ap not (ne_eqb _ _ c.if-job-h.true)))

pub returns : goal.returns
returns c =
    sym (past-header _ c.read_header-h.ensures c.if-job-lt-HEADER_SIZE.false c.in_ok-check_header.ensures
    ∙ clear _ (ap not (eq-eqb _ _ c.if-job-h.false)))
