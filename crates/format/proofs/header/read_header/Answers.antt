use Rattle.format.specs.Header.{header_at}
use Rattle.format.proofs.header.read_header.Goals as goal

pub returns : goal.returns
unfolding header_at
returns c = simp (c.read_offsets.ensures, c.read_counts.ensures)
