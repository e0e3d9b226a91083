use Rattle.serial_plan.proofs.IntoLaws.{goes-serial}
use Rattle.serial_plan.proofs.into.goes_to.Goals as goal

pub returns-then-s-ne256 : goal.returns-then-s-ne256
returns-then-s-ne256 c = goes-serial c.args.s c.args.f c.args.i c.if-s-ne256.true
