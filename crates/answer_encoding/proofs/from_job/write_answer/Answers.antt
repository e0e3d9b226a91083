use Rattle.std.proofs.Common.{refl, arith}
use Rattle.answer_encoding.proofs.Jobs.{counts-allowed}
use Rattle.answer_encoding.proofs.from_job.write_answer.Goals as goal

pub write_within-requires-2 : goal.write_within-requires-2
write_within-requires-2 c =
    let w = counts-allowed c.args.job.now c.requires.passed c.args.h c.requires.header in
    (c.requires, omega (arith, w.boundaries, w.observations), omega (arith, w.sources), omega arith, omega arith, refl)
