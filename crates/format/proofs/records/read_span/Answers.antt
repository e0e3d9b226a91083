use Rattle.format.specs.Records.{span_at}
use Rattle.format.proofs.records.read_span.Goals as goal

pub returns : goal.returns
unfolding span_at
returns c = simp (c.read_position-2.ensures, c.read_position.ensures)
