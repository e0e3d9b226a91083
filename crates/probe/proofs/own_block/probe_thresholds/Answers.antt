use native.Mathlib.Omega.{arith}
use Rattle.probe.proofs.BlockLaws.{block-kept, block-put}
use Rattle.probe.proofs.own_block.probe_thresholds.Goals as goal

pub returns-then-block-lt-BLOCK_SIZE : goal.returns-then-block-lt-BLOCK_SIZE
returns-then-block-lt-BLOCK_SIZE c =
    block-kept c.args.block.now (omega (arith, c.if-block-lt-BLOCK_SIZE.true))

pub returns : goal.returns
returns c =
    block-put c.args.block.now (omega (arith, c.if-block-lt-BLOCK_SIZE.false)) c.write_000.ensures (omega arith)
