use mathlib.Core.Path.{◌∙◌, ap}
use Rattle.wire.specs.Bytes.{splice}
use Rattle.thresholds.specs.declared.block.Block.{Block}
use Rattle.thresholds.specs.Block.{block_bytes, block000}
use Rattle.thresholds.proofs.limits.write_000.Goals as goal

pub returns : goal.returns
unfolding block000
returns c =
    c.write_block.ensures ∙ ap (λ (b : Block). splice c.args.block.now 0 (block_bytes b)) c.numbers_of_000.ensures
