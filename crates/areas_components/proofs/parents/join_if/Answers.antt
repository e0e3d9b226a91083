use Rattle.areas_components.proofs.JoinLaws.{joined-none}
use Rattle.areas_components.proofs.StepLaws.{joined-on, joined-off}
use Rattle.areas_components.proofs.parents.join_if.Goals as goal

pub returns-then-on : goal.returns-then-on
returns-then-on c =
    joined-on c.if-on.true c.join.ensures

pub returns-else-on : goal.returns-else-on
returns-else-on c =
    joined-off c.if-on.false (joined-none _ _ _)
