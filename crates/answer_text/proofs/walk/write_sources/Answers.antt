use Rattle.std.proofs.Common.{arith}
use Rattle.answer_text.proofs.Steps.{sources-start, source-room, sources_next, sources-end}
use Rattle.answer_text.proofs.walk.write_sources.Goals as goal

pub loop-i-init : goal.loop-i-init
loop-i-init c = sources-start _ _ _ _ _ c.requires.1

pub overflow_mul-i : goal.overflow_mul-i
overflow_mul-i c = omega (arith, c.requires.0)

pub overflow_add-from : goal.overflow_add-from
overflow_add-from c = omega (arith, c.requires.0)

pub read_source-s-requires : goal.read_source-s-requires
read_source-s-requires c = omega (arith, c.requires.0)

pub write_source-end-requires : goal.write_source-end-requires
write_source-end-requires c = source-room _ _ _ _ _ _ c.read_source-s.ensures (omega arith) c.loop-i.invariant

pub loop-i-preserved : goal.loop-i-preserved
loop-i-preserved c = sources_next _ _ _ _ _ _ c.read_source-s.ensures (omega arith) c.loop-i.invariant c.write_source-end.ensures

pub returns : goal.returns
returns c = sources-end _ _ _ _ _ (omega arith) c.loop-i.invariant
