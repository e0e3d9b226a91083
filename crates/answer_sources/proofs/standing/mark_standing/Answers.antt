use Rattle.std.proofs.Common.{refl, arith}
use Rattle.answer_sources.proofs.Stands.{place-below, standing-start, standing-next, standing-end}
use Rattle.answer_sources.proofs.standing.mark_standing.Goals as goal

pub count_into-requires : goal.count_into-requires
count_into-requires c = (omega arith, refl)

pub loop-j-init : goal.loop-j-init
loop-j-init c = standing-start _ _ _ _ c.requires.3

pub mark_one-requires : goal.mark_one-requires
mark_one-requires c =
    let below = place-below c.args.order.now c.args.n c.requires.2 c.loop-j.j (omega arith) in
    (omega (arith, c.requires.1, below), omega (arith, c.requires.0, below))

pub loop-j-preserved : goal.loop-j-preserved
loop-j-preserved c =
    let below = place-below c.args.order.now c.args.n c.requires.2 c.loop-j.j (omega arith) in
    standing-next c.requires.0 c.requires.2 c.loop-j.invariant (omega arith) refl refl _ c.count_into.ensures
    (omega (arith, c.requires.0, below)) c.mark_one.ensures.0 c.mark_one.ensures.1

pub returns : goal.returns
returns c = standing-end c.loop-j.invariant (omega arith)
