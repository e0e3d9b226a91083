use Rattle.std.proofs.Common.{arith}
use Rattle.answer_encoding.proofs.RecordLaws.{source-written}
use Rattle.answer_encoding.proofs.records.write_source.Goals as goal

pub returns : goal.returns
returns c =
    source-written c.args.s.now c.args.at c.args.key (omega arith) c.halves-from.ensures.high c.halves-from.ensures.low c.write_u32.ensures
    c.write_u32-2.ensures
