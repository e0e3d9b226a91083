use mathlib.Core.Path.{refl}
use native.Mathlib.Omega.{arith}
use Rattle.graph.specs.Records.{record_in}
use Rattle.serial_candidates.specs.Touchers.{touching_after}
use Rattle.serial_candidates.proofs.StepLaws.{touch-next, touch-end}
use Rattle.serial_candidates.proofs.touching.touching_of.Goals as goal

pub loop-k-init : goal.loop-k-init
unfolding touching_after
loop-k-init c = record { touching = refl; few = omega arith }

pub after-t-requires : goal.after-t-requires
after-t-requires c = omega (arith, c.loop-k.invariant.few, c.requires.few)

pub loop-k-preserved : goal.loop-k-preserved
loop-k-preserved c =
    let a = c.args in
    let inv = c.loop-k.invariant in
    let w = touch-next (record_in a.owners.now a.lefts.now a.rights.now) a.region c.loop-k.k inv.touching inv.few c.after-t.ensures in
    record { touching = w.0; few = w.1 }

pub returns : goal.returns
returns c =
    let a = c.args in
    touch-end (record_in a.owners.now a.lefts.now a.rights.now) _ {k = c.loop-k.k} {n = a.records} (omega arith) c.loop-k.invariant.touching
