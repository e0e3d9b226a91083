use Rattle.format.specs.Records.{base_at}
use Rattle.format.proofs.records.read_base.Goals as goal

pub returns : goal.returns
unfolding base_at
returns c = simp (c.read_u32-3.ensures, c.read_u32-2.ensures, c.read_u32.ensures)
