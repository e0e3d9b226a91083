use Rattle.format.specs.Records.{position_at}
use Rattle.format.proofs.records.read_position.Goals as goal

pub returns : goal.returns
unfolding position_at
returns c = simp (c.read_u32-2.ensures, c.read_u32.ensures)
