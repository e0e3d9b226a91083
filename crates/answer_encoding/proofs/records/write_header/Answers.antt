use Rattle.std.proofs.Common.{arith}
use Rattle.answer_encoding.proofs.RecordLaws.{header-written}
use Rattle.answer_encoding.proofs.records.write_header.Goals as goal

pub returns : goal.returns
returns c =
    header-written c.args.s.now c.args.b c.args.o c.args.n (omega arith) c.write_u32.ensures c.write_u32-2.ensures c.write_u32-3.ensures
    c.write_u32-4.ensures c.write_u32-5.ensures c.write_u32-6.ensures
