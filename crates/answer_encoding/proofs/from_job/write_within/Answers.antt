use Rattle.std.proofs.Common.{ℕ, arith}
use Rattle.std.proofs.Math.ListN.{length-replicate}
use Rattle.answer_encoding.proofs.Jobs.{counts-allowed}
use Rattle.answer_encoding.proofs.Rooms.{work-room}
use Rattle.answer_encoding.proofs.from_job.write_within.Goals as goal

pub place_job-requires : goal.place_job-requires
place_job-requires g c =
    let w = counts-allowed c.args.job.now c.requires.0.passed c.args.h c.requires.0.header in (
      c.requires.0,
      work-room g.row.SOURCES g.row.PLACES (omega arith) (omega arith) (omega arith) w.boundaries,
      omega arith,
      omega arith,
      length-replicate {A = ℕ} 256 0,
    )
