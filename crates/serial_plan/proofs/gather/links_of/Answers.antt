use mathlib.Core.Path.{refl}
use Prim.Native.Nat.{◌-◌}
use native.Mathlib.Omega.{arith}
use Rattle.serial_plan.proofs.FewLaws.{picked-start, picked-room, picked_next, picked-whole}
use Rattle.serial_plan.proofs.gather.links_of.Goals as goal

pub loop-k-init : goal.loop-k-init
loop-k-init c = (omega arith, picked-start c.none-found.ensures)

pub bounds-g-t : goal.bounds-g-t
bounds-g-t c = c.requires.first-in (c.loop-k.k - 1) (omega (arith, c.loop-k.invariant.0, c.loop-k-test.true))

pub with-found-requires : goal.with-found-requires
with-found-requires c =
    picked-room c.loop-k.invariant.1 c.requires.few

pub loop-k-preserved : goal.loop-k-preserved
loop-k-preserved c =
    let inv = c.loop-k.invariant in
    (omega (arith, inv.0), picked_next inv.1 c.loop-k-test.true inv.0 c.with-found.ensures c.in_part.ensures refl)

pub returns : goal.returns
returns c = picked-whole c.loop-k.invariant.1 (omega (arith, c.loop-k-test.false))
