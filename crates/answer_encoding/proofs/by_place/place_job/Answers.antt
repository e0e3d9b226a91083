use Rattle.std.proofs.Common.{ℕ, arith}
use Rattle.std.proofs.Math.ListN.{length-replicate}
use Rattle.answer_encoding.proofs.Jobs.{header-words, job-places}
use Rattle.answer_encoding.proofs.Rooms.{all-places, place-room, worked-out}
use Rattle.answer_encoding.proofs.by_place.place_job.Goals as goal

pub mark_standing-requires : goal.mark_standing-requires
mark_standing-requires g c =
    let s = c.args.job.now in
    let j = job-places s c.requires.0.passed (header-words s c.requires.0.passed c.args.h c.requires.0.header) in
    (j.countable.boundary-limit, j.countable.boundaries-in, c.requires.0.ordered, c.requires.4)

pub place_all-requires : goal.place_all-requires
place_all-requires g c =
    let s = c.args.job.now in
    let j = job-places s c.requires.0.passed (header-words s c.requires.0.passed c.args.h c.requires.0.header) in
    (all-places j, place-room j c.requires.1 (omega (arith, length-replicate {A = ℕ} g.row.SOURCES 0)))

pub returns : goal.returns
returns g c =
    let s = c.args.job.now in
    let j = job-places s c.requires.0.passed (header-words s c.requires.0.passed c.args.h c.requires.0.header) in
    worked-out j c.mark_standing.ensures c.place_all.ensures.copies_placed c.place_all.ensures.inside (omega (arith, c.requires.1.keys-few))
    (omega (arith, c.requires.1.firsts-room)) (omega (arith, c.requires.1.starts-room))
