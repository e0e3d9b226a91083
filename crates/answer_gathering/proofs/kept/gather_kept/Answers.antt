use Rattle.answer_sources.proofs.Stands.{place-below}
use Rattle.answer_gathering.proofs.Weights.{owns-room, seens-room}
use Rattle.answer_gathering.proofs.Answered.{gathered}
use Rattle.answer_gathering.proofs.kept.gather_kept.Goals as goal

pub gather_seens-requires : goal.gather_seens-requires
gather_seens-requires c = seens-room c.requires

pub gather_owns-requires : goal.gather_owns-requires
gather_owns-requires c = (owns-room c.requires, c.requires.linked)

pub returns : goal.returns
returns c = λ os count p.
    gathered c.args.job.now c.args.at c.args.from count p c.args.order.now c.args.plan.now
    (place-below c.args.order.now c.args.n c.requires.ordered) c.requires.standing c.gather_owns.ensures c.gather_seens.ensures
    (seens-room c.requires).small
