use Rattle.format.specs.Records.{observation_at}
use Rattle.format.proofs.records.read_observation.Goals as goal

pub returns : goal.returns
unfolding observation_at
returns c = simp (c.read_u32.ensures, c.read_u64.ensures, c.read_span.ensures)
