use Rattle.std.proofs.Common.{refl, arith}
use Rattle.answer_gathering.proofs.Kepts.{seens-fit, seens-skip, seens-keep}
use Rattle.answer_gathering.proofs.seen.seen_rank.Goals as goal

pub returns-then-plan-i : goal.returns-then-plan-i
returns-then-plan-i c = seens-skip _ _ _ _ _ _ _ _ _ _ _ _ c.requires.2 refl c.if-plan-i.true

pub gather_seen-r-requires : goal.gather_seen-r-requires
gather_seen-r-requires c =
    let fit = seens-fit c.requires.2 in
    (c.requires.0.own, c.requires.1, omega (arith, fit, c.requires.0.seen-room), omega (arith, fit, c.requires.0.spare-room))

pub overflow_cast-seens : goal.overflow_cast-seens
overflow_cast-seens c = omega (arith, c.gather_seen-r.ensures.1, seens-fit c.requires.2, c.requires.0.small)

pub returns : goal.returns
returns c =
    seens-keep _ _ _ _ _ _ _ _ _ _ _ _ c.requires.2 refl c.if-plan-i.false c.gather_seen-r.ensures.0 c.gather_seen-r.ensures.1
    (omega (arith, c.requires.2.few, c.requires.0.own.few, c.requires.0.seens-room)) refl
