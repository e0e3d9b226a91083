use Rattle.probe.proofs.RecordLaws.{loaded-owners, loaded-labels, zero_room, zero-table, bridges-long, marks-end}
use native.Mathlib.Omega.{arith}
use Rattle.serial_walk.specs.Marks.{bridge_marks}
use Rattle.probe.proofs.bare_records.bridge_records.Goals as goal

pub bridge_boundary_indices-requires : goal.bridge_boundary_indices-requires
bridge_boundary_indices-requires c =
    let w = c.args.work.now in
    let regions = c.args.regions in
    let p = c.requires in
    let l = c.load.ensures in
    let z = c.zero_fill.ensures in (
      loaded-owners regions l p.2,
      omega (arith, l.owners-are, p.0),
      loaded-labels l p.0 p.2,
      zero_room w regions z p.3,
      zero-table w regions z p.3,
    )

pub returns-clause-marks : goal.returns-clause-marks
returns-clause-marks c =
    let a = c.args in
    let b = c.bridge_boundary_indices.ensures in
    marks-end bridge_marks bridges-long a.marks.now c.load.ensures b.marks c.requires.4 c.copy.ensures.1
