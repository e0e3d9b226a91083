use Rattle.std.proofs.Common.{refl, arith}
use Rattle.answer_gathering.proofs.Kepts.{owns-fit, owns-skip, owns-keep}
use Rattle.answer_gathering.proofs.own.own_rank.Goals as goal

pub returns-then-plan-i : goal.returns-then-plan-i
returns-then-plan-i c = owns-skip _ _ _ _ _ _ _ _ _ c.requires.2 refl c.if-plan-i.true

pub add_owns-r-requires : goal.add_owns-r-requires
add_owns-r-requires c =
    (c.requires.0.own, omega (arith, owns-fit c.requires.2, c.requires.0.owned-room), c.requires.2.linked)

pub returns : goal.returns
returns c =
    owns-keep _ _ _ _ _ _ _ _ _ c.requires.2 refl c.if-plan-i.false (λ i. omega (arith, c.type_inv.job i)) c.add_owns-r.ensures
    (omega (arith, c.requires.2.few, c.requires.0.own.few, c.requires.0.kept-room))
    (omega (arith, c.requires.2.few, c.requires.0.own.few, c.requires.0.owns-room)) refl (omega arith)
