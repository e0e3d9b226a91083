use mathlib.Core.Path.{◌∙◌}
use Rattle.marks.proofs.SingleMarks.{single-marks}
use Rattle.marks.proofs.Spare.{spare-lent}
use Rattle.marks.proofs.mark_lent.Goals as goal

pub mark_bridges-requires : goal.mark_bridges-requires
mark_bridges-requires c =
    let p = c.requires in
    (p.0.marked, p.0.owners-are, p.0.labelled, p.0.room, p.0.zero, p.1)

pub returns-then-single : goal.returns-then-single
returns-then-single c =
    let a = c.args in
    let found = c.mark_bridges.ensures in
    record {
      marks = found.marks ∙ single-marks a.owners.now a.lefts.now a.rights.now a.count (c.single.ensures c.if-single.true) 256;
      work = found.work;
    }

pub close_small-requires : goal.close_small-requires
close_small-requires c =
    (c.requires.0, spare-lent c.requires.1)
