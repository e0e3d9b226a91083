use mathlib.Core.Path.{◌∙◌}
use native.Mathlib.Omega.{arith}
use lib.ListN.{length}
use Rattle.serial_bridges.proofs.Names.{remembered, restored}
use Rattle.serial_bridges.proofs.Small.{small-graph}
use Rattle.marks.proofs.Renamed.{renamed-marks}
use Rattle.marks.proofs.close_small.Goals as goal

pub close_boundaries-requires : goal.close_boundaries-requires
close_boundaries-requires c =
    let p = c.requires.0 in
    let spare = c.requires.1 in (
      p.marked,
      record {
        owners-are = p.owners-are;
        rising = p.rising;
        graph = small-graph p.labelled c.number_all.ensures (length c.args.parents.now) spare.enough spare.near;
      },
      spare.lent,
    )

pub forget_all-requires : goal.forget_all-requires
forget_all-requires c = (c.requires.0.labelled, omega (arith, c.requires.0.room, c.number_all.auto))

pub returns : goal.returns
returns c =
    let p = c.requires.0 in
    let n = c.number_all.ensures in
    record {
      marks = c.close_boundaries.ensures ∙ renamed-marks p.labelled n c.args.owners.now 256;
      work = restored (c.forget_all.ensures c.args.work.now (remembered n)) p.room p.zero;
    }
