use mathlib.Core.Path.{◌≡◌, sym, ◌∙◌}
use mathlib.Core.Bool.{Bool}
use native.Mathlib.Omega.{arith}
use Rattle.thresholds.proofs.Faulty.{refused-block, passed-block, bad-head, bad-sizes, bad-ranges, no-fault}
use Rattle.thresholds.proofs.faults.check_thresholds.Goals as goal

-- what a test said, by the way that was taken
said : {t u v : Bool} → t ≡ u → t ≡ v → v ≡ u
said e f = sym f ∙ e

pub returns-then-block-ne-BLOCK_SIZE : goal.returns-then-block-ne-BLOCK_SIZE
returns-then-block-ne-BLOCK_SIZE c =
    refused-block c.args.block.now (λ r. omega (arith, c.if-block-ne-BLOCK_SIZE.true, r.long))

pub returns-then-head_fault : goal.returns-then-head_fault
returns-then-head_fault c =
    refused-block c.args.block.now
    (bad-head c.args.block.now c.read_block-b.ensures (said c.head_fault.ensures c.if-head_fault.true))

pub returns-then-sizes_fault : goal.returns-then-sizes_fault
returns-then-sizes_fault c =
    refused-block c.args.block.now
    (bad-sizes c.args.block.now c.read_block-b.ensures (said c.sizes_fault.ensures c.if-sizes_fault.true))

pub returns-then-ranges_fault : goal.returns-then-ranges_fault
returns-then-ranges_fault c =
    refused-block c.args.block.now
    (bad-ranges c.args.block.now c.read_block-b.ensures (said c.ranges_fault.ensures c.if-ranges_fault.true))

pub returns : goal.returns
returns c =
    passed-block c.args.block.now
    (no-fault c.args.block.now c.read_block-b.ensures (omega (arith, c.if-block-ne-BLOCK_SIZE.false))
    (said c.head_fault.ensures c.if-head_fault.false) (said c.sizes_fault.ensures c.if-sizes_fault.false)
    (said c.ranges_fault.ensures c.if-ranges_fault.false))
