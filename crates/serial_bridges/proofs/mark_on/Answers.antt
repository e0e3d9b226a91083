use native.Mathlib.Omega.{arith}
use Rattle.serial_bridges.proofs.Lent.{cleared}
use Rattle.serial_bridges.proofs.mark_on.Goals as goal

pub mark_bridges-requires : goal.mark_bridges-requires
mark_bridges-requires g c =
    let p = c.requires in (
      p.0,
      p.1,
      p.2,
      p.3,
      p.4,
      cleared c.args.count g.row.RECORDS g.row.REGIONS 4096 p.5 p.7 p.8 (omega (arith, p.2.few)),
    )
