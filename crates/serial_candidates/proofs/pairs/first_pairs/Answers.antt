use mathlib.Core.Path.{◌≡◌, refl}
use native.Mathlib.Omega.{arith}
use lib.ListN.{get_or}
use Rattle.serial_candidates.proofs.FirstLaws.{firsts-start, count-few, firsts_at, firsts-end}
use Rattle.serial_candidates.proofs.pairs.first_pairs.Goals as goal

pub loop-k-init : goal.loop-k-init
loop-k-init c = firsts-start c.args.owners.now c.args.lefts.now c.args.rights.now 256 refl

pub add_pair-requires : goal.add_pair-requires
add_pair-requires c =
    let m = c.requires.1.each c.loop-k.k c.loop-k-test.true in
    (m, count-few c.loop-k.invariant (omega (arith, c.requires.0.few)) _ m)

pub loop-k-preserved : goal.loop-k-preserved
loop-k-preserved c =
    let a = c.args in
    let k = c.loop-k.k in
    let rank : get_or a.owners.now k 0 ≡ get_or a.owners.now k 0 = refl in
    let w = c.add_pair.ensures in
    firsts_at {owners = a.owners.now} {lefts = a.lefts.now} {rights = a.rights.now} {k = k} rank w.counted w.lower w.higher c.loop-k.invariant

pub returns : goal.returns
returns c = firsts-end {k = c.loop-k.k} {n = c.args.records} (omega arith) c.loop-k.invariant
