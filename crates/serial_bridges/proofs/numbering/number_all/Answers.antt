use mathlib.Core.Path.{◌≡◌, subst}
use native.Mathlib.Omega.{arith}
use Rattle.serial_bridges.specs.Names.{EndNumbers}
use Rattle.serial_bridges.proofs.Names.{unnumbered}
use Rattle.serial_bridges.proofs.numbering.number_all.Goals as goal

pub loop-k-init : goal.loop-k-init
loop-k-init c = unnumbered c.args.work.now c.requires.2 c.requires.3 c.requires.4

pub number_record-requires : goal.number_record-requires
number_record-requires c =
    let n = c.loop-k.invariant in
    (c.loop-k-test.true, c.requires.0, omega (arith, n.table.as_long), n.lefts-are, n.rights-are)

pub loop-k-preserved : goal.loop-k-preserved
loop-k-preserved c = c.number_record.ensures _ c.loop-k.invariant

pub returns : goal.returns
returns c =
    let e : c.loop-k.k ≡ c.args.count = omega arith in
    subst (EndNumbers _ _ _ _ _ _ _ _ _) e c.loop-k.invariant
