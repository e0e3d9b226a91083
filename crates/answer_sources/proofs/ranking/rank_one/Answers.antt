use Rattle.answer_sources.proofs.Ranked.{ranked-one}
use Rattle.answer_sources.proofs.ranking.rank_one.Goals as goal

pub returns : goal.returns
returns c =
    ranked-one _ _ c.canonical-e.result c.requires c.canonical-e.ensures c.packed.ensures.0
    c.packed-2.ensures.0 c.total_key.ensures c.packed.ensures.2 c.packed-2.ensures.2
