use mathlib.Core.Path.{refl}
use native.Mathlib.Omega.{arith}
use Rattle.serial_plan.proofs.FewLaws.{picked-start, picked-room, picked_next, picked-whole}
use Rattle.serial_plan.proofs.gather.ranks_of.Goals as goal

pub loop-i-init : goal.loop-i-init
loop-i-init c = (omega arith, picked-start c.none-found.ensures)

pub with-found-requires : goal.with-found-requires
with-found-requires c =
    picked-room c.loop-i.invariant.1 c.requires

pub loop-i-preserved : goal.loop-i-preserved
loop-i-preserved c =
    let inv = c.loop-i.invariant in (
      omega (arith, inv.0),
      picked_next inv.1 c.loop-i-test.true inv.0 c.with-found.ensures c.in_part.ensures refl,
    )

pub returns : goal.returns
returns c = picked-whole c.loop-i.invariant.1 (omega (arith, c.loop-i-test.false))
