use Prim.Native.Nat.{◌*◌}
use native.Mathlib.Omega.{arith}
use Rattle.probe.proofs.WritingLaws.{filled-start, filled_next, filled-words}
use Rattle.probe.proofs.own_regions.write_words.Goals as goal

pub loop-i-init : goal.loop-i-init
loop-i-init c = filled-start 4 _ _ _ 0

pub loop-i-preserved : goal.loop-i-preserved
loop-i-preserved c =
    let turn = c.loop-i in
    filled_next 4 _ _ (4 * turn.i) turn.invariant (omega arith) (omega arith) c.write_u32.ensures

pub returns : goal.returns
returns c = filled-words c.args.ws.now c.loop-i.invariant (omega arith)
