use Rattle.thresholds.proofs.Written.{block_written}
use Rattle.thresholds.proofs.block.write_block.Goals as goal

pub returns : goal.returns
returns c =
    block_written c.args.block.now c.args.b c.requires c.write_head.ensures c.write_numbers.ensures
