use mathlib.Core.Path.{refl}
use Prim.Native.Nat.{◌+◌, ◌*◌, ◌≤◌}
use native.Mathlib.Omega.{arith}
use lib.ListN.{length}
use Rattle.probe.proofs.WritingLaws.{after-three, filled-start, filled_next}
use Rattle.probe.proofs.own_partition.write_records.Goals as goal

pub loop-k-init : goal.loop-k-init
loop-k-init c = filled-start 12 _ _ _ _

pub loop-k-preserved : goal.loop-k-preserved
loop-k-preserved c =
    let turn = c.loop-k in
    let place = c.args.at + 12 * turn.k in
    let room : place + 12 ≤ length turn.out = omega (arith, turn.invariant.long) in
    filled_next 12 _ _ place turn.invariant (omega arith) refl
    (after-three turn.out place _ _ _ room c.write_u32.ensures c.write_u32-in-loop-k.ensures c.write_u32-in-loop-k-2.ensures)
