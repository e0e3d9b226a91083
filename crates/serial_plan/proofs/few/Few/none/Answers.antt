use Rattle.serial_plan.specs.Few.{first_of}
use Rattle.serial_plan.proofs.FewLaws.{none-held}
use Rattle.serial_plan.proofs.few.Few.none.Goals as goal

pub returns : goal.returns
unfolding first_of
returns c = none-held
