use Rattle.thresholds.specs.Block.{block_at}
use Rattle.thresholds.proofs.block.read_block.Goals as goal

pub returns : goal.returns
unfolding block_at
returns c =
    simp (
      c.read_u32.ensures,
      c.read_u32-2.ensures,
      c.read_u32-3.ensures,
      c.read_u32-4.ensures,
      c.read_u64.ensures,
      c.read_u64-2.ensures,
      c.read_u64-3.ensures,
      c.read_u64-4.ensures,
      c.read_u64-5.ensures,
      c.read_u64-6.ensures,
    )
