use native.Mathlib.Omega.{arith}
use Rattle.serial_bridges.proofs.Lent.{cleared}
use Rattle.marks.proofs.mark_sized.Goals as goal

pub mark_lent-requires : goal.mark_lent-requires
mark_lent-requires g c =
    let p = c.requires in
    (p.0, cleared c.args.count g.row.RECORDS g.row.REGIONS 4096 p.1 (omega (arith, p.1, p.2)) p.3 p.0.labelled.few)
