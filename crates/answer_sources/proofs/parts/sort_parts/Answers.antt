use Rattle.std.proofs.Common.{refl, arith}
use Rattle.answer_sources.proofs.Squeezed.{squeezed-start, same, part-within, squeezed-next, squeezed-end}
use Rattle.answer_sources.proofs.parts.sort_parts.Goals as goal

pub loop-q-init : goal.loop-q-init
loop-q-init c = squeezed-start _ _ _

pub sort_unique-e-requires : goal.sort_unique-e-requires
sort_unique-e-requires c =
    let inv = c.loop-q.invariant in (
      omega arith,
      omega (arith, part-within c.requires.clear inv, inv.keys-long),
      omega (arith, same c.requires.clear inv, c.requires.spare-room c.loop-q.q),
    )

pub loop-q-preserved : goal.loop-q-preserved
loop-q-preserved c =
    let inv = c.loop-q.invariant in
    squeezed-next c.requires.clear inv (omega (arith, c.requires.counts-room, inv.counts-long)) refl refl c.sort_unique-e.ensures refl (omega arith)

pub returns : goal.returns
returns c = squeezed-end c.loop-q.invariant (omega arith) (omega arith)
