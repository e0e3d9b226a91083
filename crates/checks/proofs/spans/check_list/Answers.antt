use mathlib.Core.Path.{sym, ◌∙◌, ap}
use mathlib.Core.Bool.{not}
use borrow.Author.Tests.{lt-ltb, le-ltb, eq-eqb, ne_eqb}
use Rattle.checks.specs.Single.{list_checks}
use Rattle.checks.proofs.Firsts.{skip, stop}
use Rattle.checks.proofs.spans.check_list.Goals as goal

pub returns-then-not-list : goal.returns-then-not-list
unfolding list_checks
returns-then-not-list c = sym (stop _ _ (ap not (ne_eqb _ _ c.if-not-list.true)))

pub returns-then-n-gt-MAX_SPANS : goal.returns-then-n-gt-MAX_SPANS
unfolding list_checks
returns-then-n-gt-MAX_SPANS c = sym (skip _ _ (ap not (eq-eqb _ _ c.if-not-list.false)) ∙ stop _ _ (lt-ltb _ _ c.if-n-gt-MAX_SPANS.true))

pub returns : goal.returns
unfolding list_checks
returns c = c.check_spans.ensures ∙ sym (skip _ _ (ap not (eq-eqb _ _ c.if-not-list.false)) ∙ skip _ _ (le-ltb _ _ c.if-n-gt-MAX_SPANS.false))
