use Rattle.std.proofs.Common.{sym, arith}
use lib.Seq.{length-take-le}
use Rattle.printing.proofs.Printing.{refused-text, left_by_lem, detail-fits, listed-text, same_text}
use Rattle.printing.proofs.print.print_list.Goals as goal

pub returns-then-number-ne0 : goal.returns-then-number-ne0
returns-then-number-ne0 c =
    let a = c.args in
    let e = c.chokes_reduce-v.ensures in
    record {
      writes = same_text (refused-text a.job.now a.thresholds.now a.work.now a.answer.now e c.if-number-ne0.true) c.write_refused.ensures.writes;
      fits = omega (arith, c.write_refused.ensures.fits, c.requires.1);
      lent = left_by_lem a.job.now a.thresholds.now a.work.now a.answer.now e;
    }

pub slice_bounds-write_listing-end : goal.slice_bounds-write_listing-end
slice_bounds-write_listing-end c =
    let a = c.args in
    omega (arith, detail-fits a.job.now a.thresholds.now a.work.now a.answer.now c.chokes_reduce-v.ensures c.if-number-ne0.false)

pub slice_bounds-write_listing-end-2 : goal.slice_bounds-write_listing-end-2
slice_bounds-write_listing-end-2 c =
    let a = c.args in
    let fits = detail-fits a.job.now a.thresholds.now a.work.now a.answer.now c.chokes_reduce-v.ensures c.if-number-ne0.false in
    sym (length-take-le _ _ (omega (arith, fits)))

pub returns : goal.returns
returns c =
    let a = c.args in
    let e = c.chokes_reduce-v.ensures in
    record {
      writes = same_text (listed-text a.job.now a.thresholds.now a.work.now a.answer.now e c.if-number-ne0.false a.out.now c.requires.0)
          c.write_listing.ensures.writes;
      fits = c.write_listing.ensures.fits;
      lent = left_by_lem a.job.now a.thresholds.now a.work.now a.answer.now e;
    }
