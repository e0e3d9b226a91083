use mathlib.Core.Path.{◌≡◌, refl}
use native.Mathlib.Omega.{arith}
use Rattle.serial_bridges.proofs.Names.{forgotten-at}
use Rattle.serial_bridges.proofs.numbering.forget_record.Goals as goal

pub put_word-requires : goal.put_word-requires
put_word-requires c =
    let p = c.requires in
    (p.1.left-from c.args.k p.0, omega (arith, p.1.left-to c.args.k p.0))

pub put_word-requires-2 : goal.put_word-requires-2
put_word-requires-2 c =
    let p = c.requires in
    (p.1.right-from c.args.k p.0, omega (arith, p.1.right-to c.args.k p.0, c.put_word.auto))

pub returns : goal.returns
returns c =
    let p = c.requires in
    let k : c.args.k ≡ c.args.k = refl in
    λ start f. forgotten-at k p.0 p.1 p.2 f c.put_word.ensures c.put_word-2.ensures
