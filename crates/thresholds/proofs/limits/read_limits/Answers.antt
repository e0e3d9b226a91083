use native.Mathlib.Omega.{arith}
use Rattle.thresholds.proofs.Faulty.{block-right, read-ranges}
use Rattle.thresholds.proofs.Written.{limits-read}
use Rattle.thresholds.proofs.limits.read_limits.Goals as goal

pub read_block-b-requires : goal.read_block-b-requires
read_block-b-requires c =
    omega (arith, (block-right c.args.block.now c.requires).long)

pub width_of-requires : goal.width_of-requires
width_of-requires c = omega (arith, (read-ranges _ c.read_block-b.ensures c.requires).chain)

pub width_of-requires-2 : goal.width_of-requires-2
width_of-requires-2 c = omega (arith, (read-ranges _ c.read_block-b.ensures c.requires).width)

pub width_of-requires-3 : goal.width_of-requires-3
width_of-requires-3 c = omega (arith, (read-ranges _ c.read_block-b.ensures c.requires).geometry)

pub width_of-requires-4 : goal.width_of-requires-4
width_of-requires-4 c = omega (arith, (read-ranges _ c.read_block-b.ensures c.requires).duplicate)

pub width_of-requires-5 : goal.width_of-requires-5
width_of-requires-5 c = omega (arith, (read-ranges _ c.read_block-b.ensures c.requires).envelope)

pub width_of-requires-6 : goal.width_of-requires-6
width_of-requires-6 c = omega (arith, (read-ranges _ c.read_block-b.ensures c.requires).cosine)

pub returns : goal.returns
returns c =
    limits-read c.args.block.now c.read_block-b.ensures c.width_of.ensures c.width_of-2.ensures
    c.width_of-3.ensures c.width_of-4.ensures c.width_of-5.ensures c.width_of-6.ensures
