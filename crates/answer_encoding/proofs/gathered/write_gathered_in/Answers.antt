use Rattle.std.proofs.Common.{sym}
use Rattle.answer_encoding.proofs.Jobs.{header-words, job-places, kept-is}
use Rattle.answer_encoding.proofs.Rooms.{gather-room, answered-same}
use Rattle.answer_encoding.proofs.gathered.write_gathered_in.Goals as goal

pub gather_kept-count-requires : goal.gather_kept-count-requires
gather_kept-count-requires c =
    let s = c.args.job.now in
    let j = job-places s c.requires.0.passed (header-words s c.requires.0.passed c.args.h c.requires.0.header) in
    gather-room j c.requires.1 c.requires.2 c.requires.0.ordered

pub write_kept-requires : goal.write_kept-requires
write_kept-requires c =
    let s = c.args.job.now in
    let j = job-places s c.requires.0.passed (header-words s c.requires.0.passed c.args.h c.requires.0.header) in
    let both = c.gather_kept-count.ensures _ _ c.requires.1.placed in
    record {
      n = c.args.h.counts.boundaries;
      ks = _;
      many = sym both.1;
      gathered = both.0;
      limit = j.countable.boundary-limit;
      inside = j.countable.boundaries-in;
      keys-few = c.requires.1.keys-few;
    }

pub returns : goal.returns
returns c =
    let s = c.args.job.now in
    let both = c.gather_kept-count.ensures _ _ c.requires.1.placed in
    answered-same (kept-is s c.requires.0.passed (header-words s c.requires.0.passed c.args.h c.requires.0.header) c.args.order.now c.args.plan.now
    c.requires.0.ordered) (c.write_kept.ensures _ _ (sym both.1) both.0)
