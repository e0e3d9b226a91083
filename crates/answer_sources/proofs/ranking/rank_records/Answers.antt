use Rattle.std.proofs.Common.{arith}
use Rattle.answer_sources.proofs.Ranked.{ranked-start, ranked-next, ranked-end}
use Rattle.answer_sources.proofs.ranking.rank_records.Goals as goal

pub loop-p-init : goal.loop-p-init
loop-p-init g c = λ ends bits met. ranked-start _ _ _ _ _ _

pub read-bits-requires : goal.read-bits-requires
read-bits-requires g c = c.requires.readable c.loop-p.p (omega arith)

pub rank_one-requires : goal.rank_one-requires
rank_one-requires g c =
    record {
      first-room = omega (arith, c.requires.room.first-room);
      second-room = omega (arith, c.requires.room.second-room);
      third-room = omega (arith, c.requires.room.third-room);
    }

pub loop-p-preserved : goal.loop-p-preserved
loop-p-preserved g c = λ ends bits met.
    let is = met c.loop-p.p (omega arith) _ c.read-bits.ensures in
    ranked-next (c.loop-p.invariant ends bits met) c.rank_one.ensures (omega arith) is.0 is.1

pub returns : goal.returns
returns g c = λ ends bits met. ranked-end (c.loop-p.invariant ends bits met) (omega arith) (omega arith)
