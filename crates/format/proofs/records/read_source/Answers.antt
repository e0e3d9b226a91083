use Rattle.format.specs.Records.{source_at}
use Rattle.format.proofs.records.read_source.Goals as goal

pub returns : goal.returns
unfolding source_at
returns c = simp (c.read_u32-2.ensures, c.read_u32.ensures)
