use mathlib.Core.Path.{◌≡◌, refl, subst}
use native.Mathlib.Omega.{arith}
use Rattle.serial_measures.specs.Tables.{Written}
use Rattle.serial_measures.proofs.Writing.{write-start, word-there, write-next}
use Rattle.serial_measures.proofs.number_all.Goals as goal

pub loop-k-init : goal.loop-k-init
loop-k-init c = write-start _ c.requires.1

pub put_word-requires : goal.put_word-requires
put_word-requires c =
    let m = c.loop-k in
    let k : m.k ≡ m.k = refl in
    word-there c.requires.2 c.loop-k-test.true k m.work (omega (arith, c.requires.1.room, m.invariant.table.as_long))

pub loop-k-preserved : goal.loop-k-preserved
loop-k-preserved c =
    let k : c.loop-k.k ≡ c.loop-k.k = refl in
    write-next c.requires.2 c.requires.1.room c.loop-k-test.true k c.loop-k.invariant c.put_word.ensures

pub returns : goal.returns
returns c = let all : c.loop-k.k ≡ c.args.links = omega arith in subst (Written _ _ _ _) all c.loop-k.invariant
