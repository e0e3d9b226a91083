use mathlib.Core.Path.{sym, ◌∙◌}
use borrow.Author.Tests.{eqb-true}
use Rattle.areas_components.proofs.JoinLaws.{joined-near}
use Rattle.areas_components.proofs.parents.join.Goals as goal

pub returns-then-same_parent : goal.returns-then-same_parent
returns-then-same_parent c =
    joined-near _ _ _ (eqb-true _ _ (sym c.same_parent.ensures ∙ c.if-same_parent.true))
