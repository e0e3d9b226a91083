use Rattle.std.proofs.Common.{arith}
use Rattle.answer_text.proofs.Steps.{boundaries-start, boundary-room, boundaries-next, boundaries-written}
use Rattle.answer_text.proofs.walk.write_boundaries.Goals as goal

pub loop-i-init : goal.loop-i-init
loop-i-init c = boundaries-start _ _ _ _ _ c.requires.0 c.requires.2

pub overflow_mul-i : goal.overflow_mul-i
overflow_mul-i c = omega (arith, c.requires.1)

pub overflow_add-place : goal.overflow_add-place
overflow_add-place c = omega (arith, c.requires.1)

pub write_boundary-d-requires : goal.write_boundary-d-requires
write_boundary-d-requires c =
    (c.loop-i.invariant.inside, omega (arith, c.requires.1), boundary-room _ _ _ _ _ c.loop-i.invariant (omega arith))

pub loop-i-preserved : goal.loop-i-preserved
loop-i-preserved c =
    boundaries-next _ _ _ _ _ c.loop-i.invariant (omega arith) _ c.write_boundary-d.ensures.text c.write_boundary-d.ensures.moved

pub returns : goal.returns
returns c = boundaries-written _ _ _ _ _ c.loop-i.invariant (omega arith)
