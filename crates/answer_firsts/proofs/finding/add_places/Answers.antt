use Rattle.answer_firsts.proofs.Grows.{covers-start, covers-next, covers-end}
use native.Mathlib.Omega.{arith}
use Rattle.answer_firsts.proofs.finding.add_places.Goals as goal

pub loop-i-init : goal.loop-i-init
loop-i-init c = covers-start _ c.requires.linked

pub add_place-found-requires : goal.add_place-found-requires
add_place-found-requires c =
    let asked = c.requires.first_le_count in
    let state = c.loop-i.invariant in
    let least = state.least in
    let most = state.most in
    (state.linked, omega arith, omega arith, omega arith)

pub loop-i-preserved : goal.loop-i-preserved
loop-i-preserved c =
    covers-next c.loop-i.invariant c.add_place-found.ensures (omega arith)

pub returns : goal.returns
returns c = covers-end c.loop-i.invariant (omega arith)
