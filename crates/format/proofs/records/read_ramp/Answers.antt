use Rattle.format.specs.Records.{ramp_at}
use Rattle.format.proofs.records.read_ramp.Goals as goal

pub returns : goal.returns
unfolding ramp_at
returns c = simp c.read_u32.ensures
