use Rattle.probe.proofs.RecordLaws.{loaded-owners, loaded-labels, zero_room, zero-table, loaded-rising, chokes-long, marks-end}
use native.Mathlib.Omega.{arith}
use Rattle.marks_closing.specs.Marks.{choke_marks}
use Rattle.probe.proofs.bare_records.mark_records.Goals as goal

pub mark_boundaries-requires : goal.mark_boundaries-requires
mark_boundaries-requires c =
    let w = c.args.work.now in
    let regions = c.args.regions in
    let p = c.requires in
    let l = c.load.ensures in
    let z = c.zero_fill.ensures in
    record {
      marked = loaded-owners regions l p.2;
      owners-are = omega (arith, l.owners-are, p.0);
      rising = loaded-rising l p.5;
      labelled = loaded-labels l p.0 p.2;
      room = zero_room w regions z p.3;
      zero = zero-table w regions z p.3;
    }

pub returns-clause-marks : goal.returns-clause-marks
returns-clause-marks c =
    let a = c.args in
    let b = c.mark_boundaries.ensures in
    marks-end choke_marks chokes-long a.marks.now c.load.ensures b.marks c.requires.4 c.copy.ensures.1
