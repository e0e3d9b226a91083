use native.Mathlib.Omega.{arith}
use Rattle.thresholds.proofs.Written.{head-written}
use Rattle.thresholds.proofs.block.write_head.Goals as goal

pub returns : goal.returns
returns c =
    head-written c.args.block.now c.args.b c.requires
    c.write_u32.ensures c.write_u32-2.ensures c.write_u32-3.ensures c.write_u32-4.ensures
    (omega arith) (omega arith) (omega arith) (omega arith) (omega arith) (omega arith) (omega arith) (omega arith)
