use Rattle.serial_plan.specs.Few.{pushed}
use Rattle.serial_plan.proofs.few.Few.with.Goals as goal

pub returns : goal.returns
unfolding pushed
returns c =
    rw c.if-not-on.false
