use mathlib.Core.Path.{refl}
use Prim.Native.Nat.{◌+◌, ◌*◌, ◌≤◌}
use native.Mathlib.Omega.{arith}
use lib.ListN.{length}
use Rattle.probe.proofs.WritingLaws.{after_two, filled-start, filled_next}
use Rattle.probe.proofs.own_partition.write_counts.Goals as goal

pub loop-i-init : goal.loop-i-init
loop-i-init c = filled-start 8 _ _ _ 8

pub loop-i-preserved : goal.loop-i-preserved
loop-i-preserved c =
    let turn = c.loop-i in
    let place = 8 + 8 * turn.i in
    let room : place + 8 ≤ length turn.out = omega (arith, turn.invariant.long) in
    filled_next 8 _ _ place turn.invariant (omega arith) refl
    (after_two turn.out place _ _ room c.write_u32.ensures c.write_u32-in-loop-i.ensures)
