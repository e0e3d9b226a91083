use Rattle.format.proofs.Writes.{ramp-written}
use lib.ListN.{length-set}
use mathlib.Core.Path.{refl}
use native.Mathlib.Omega.{arith}
use Rattle.format.proofs.writing.write_ramp.Goals as goal

pub bounds-s-at-2 : goal.bounds-s-at-2
bounds-s-at-2 c = simp length-set (omega arith)

pub bounds-s-at-3 : goal.bounds-s-at-3
bounds-s-at-3 c = simp length-set (omega arith)

pub bounds-s-at-4 : goal.bounds-s-at-4
bounds-s-at-4 c = simp length-set (omega arith)

pub write_u32-requires : goal.write_u32-requires
write_u32-requires c = simp length-set (omega arith)

pub shape_of-s : goal.shape_of-s
shape_of-s c = simp length-set at c.s-1.given

pub returns : goal.returns
returns c =
    ramp-written c.args.s.now c.args.at c.args.r (omega arith) refl c.write_u32.ensures
