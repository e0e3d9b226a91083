use native.Mathlib.Omega.{arith}
use Rattle.format.proofs.Writes.{span-written}
use Rattle.format.proofs.writing.write_span.Goals as goal

pub returns : goal.returns
returns c =
    span-written c.args.s.now c.args.at c.args.ends (omega arith) c.write_u32.ensures
    c.write_u32-2.ensures c.write_u32-3.ensures c.write_u32-4.ensures
