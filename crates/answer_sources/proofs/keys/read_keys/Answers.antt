use Rattle.std.proofs.Common.{refl, arith}
use Rattle.answer_sources.proofs.KeysRead.{keys-start, keys-next, keys-end, part-fits, part-inside}
use Rattle.answer_sources.proofs.keys.read_keys.Goals as goal

pub loop-q-init : goal.loop-q-init
loop-q-init c = keys-start _ _ _ _ _

pub read_part-requires : goal.read_part-requires
read_part-requires c =
    let read = c.loop-q.invariant in (part-inside c.requires read refl refl, part-fits c.requires read refl refl)

pub loop-q-preserved : goal.loop-q-preserved
loop-q-preserved c = keys-next c.requires c.loop-q.invariant refl refl c.read_part.ensures

pub returns : goal.returns
returns c = keys-end c.loop-q.invariant (omega arith) (omega arith)
