use Rattle.format.specs.Header.{offsets_at}
use Rattle.format.proofs.header.read_offsets.Goals as goal

pub returns : goal.returns
unfolding offsets_at
returns c =
    simp (
      c.read_u32-6.ensures,
      c.read_u32-5.ensures,
      c.read_u32-4.ensures,
      c.read_u32-3.ensures,
      c.read_u32-2.ensures,
      c.read_u32.ensures,
    )
