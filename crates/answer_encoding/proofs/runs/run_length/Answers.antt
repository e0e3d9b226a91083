use Rattle.std.proofs.Common.{get_or, arith}
use Rattle.answer_encoding.proofs.Lengths.{part-long}
use Rattle.answer_encoding.proofs.runs.run_length.Goals as goal

pub returns : goal.returns
returns c =
    omega (
      arith,
      part-long c.args.o.keys.now (get_or c.args.o.starts.now c.args.p 0) (get_or c.args.o.counts.now c.args.p 0),
      c.read_or-a.ensures,
      c.read_or-n.ensures,
    )
