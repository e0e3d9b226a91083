use native.Mathlib.Omega.{arith}
use Rattle.format.proofs.Writes.{observation-written}
use Rattle.format.proofs.writing.write_observation.Goals as goal

pub returns : goal.returns
returns c =
    observation-written c.args.s.now c.args.at c.args.ends c.args.bits c.args.sources (omega arith)
    c.write_span.ensures c.write_u64.ensures c.write_u32.ensures
