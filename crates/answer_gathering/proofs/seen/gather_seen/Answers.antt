use Rattle.std.proofs.Common.{arith}
use Rattle.answer_sources.specs.Laying.{seen_count}
use Rattle.answer_gathering.proofs.Sights.{seen-gathered}
use Rattle.answer_gathering.proofs.seen.gather_seen.Goals as goal

pub sort_places-requires : goal.sort_places-requires
sort_places-requires c =
    let added = c.add_seens-end.ensures in (
      omega (arith, added.0.ends),
      omega (arith, added.1, c.requires.2, added.0.long),
      omega (arith, added.1, c.requires.3),
    )

pub returns : goal.returns
returns c =
    let a = c.args in
    let added = c.add_seens-end.ensures in (
      seen-gathered a.base a.order.now a.plan.now a.firsts.now a.o.first.now a.o.second.now a.o.third.now a.o.starts.now a.o.counts.now a.o.keys.now
          (seen_count a.job.now a.at) a.n a.i added.0 (omega (arith, c.requires.2)) (omega (arith, added.1, c.requires.2, added.0.long))
          c.sort_places.ensures,
      added.1,
    )
