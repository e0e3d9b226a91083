use native.Mathlib.Omega.{arith}
use Rattle.thresholds.proofs.Written.{numbers-written}
use Rattle.thresholds.proofs.block.write_numbers.Goals as goal

pub returns : goal.returns
returns c =
    numbers-written c.args.block.now c.args.b c.requires
    c.write_u64.ensures c.write_u64-2.ensures c.write_u64-3.ensures c.write_u64-4.ensures
    c.write_u64-5.ensures c.write_u64-6.ensures
    (omega arith) (omega arith) (omega arith) (omega arith) (omega arith) (omega arith)
    (omega arith) (omega arith) (omega arith) (omega arith) (omega arith) (omega arith)
