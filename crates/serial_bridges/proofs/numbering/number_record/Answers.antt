use mathlib.Core.Path.{◌≡◌, refl}
use native.Mathlib.Omega.{arith}
use Rattle.serial_bridges.proofs.Names.{numbered-at}
use Rattle.serial_bridges.proofs.numbering.number_record.Goals as goal

pub number_of-requires : goal.number_of-requires
number_of-requires c =
    let p = c.requires in
    (p.1.left-from c.args.k p.0, omega (arith, p.1.left-to c.args.k p.0), omega (arith, p.1.few))

pub number_of-requires-2 : goal.number_of-requires-2
number_of-requires-2 c =
    let p = c.requires in
    (p.1.right-from c.args.k p.0, omega (arith, p.1.right-to c.args.k p.0, c.number_of.auto), omega (arith, p.1.few))

pub returns : goal.returns
returns c =
    let p = c.requires in
    let k : c.args.k ≡ c.args.k = refl in
    let x = c.number_of.ensures in
    let y = c.number_of-2.ensures in
    λ start n. numbered-at k p.0 p.1 p.2 n x.old x.new y.old y.new
