use native.Mathlib.Omega.{arith}
use Rattle.serial_plan.proofs.SumLaws.{gaps-count, chain-added}
use Rattle.serial_plan.proofs.chain.chain_sum.Goals as goal

pub ascending_sum-requires : goal.ascending_sum-requires
ascending_sum-requires c =
    let a = c.args in
    let count = gaps-count a.t.now.firsts.now a.t.now.seconds.now a.t.now.own.now a.links c.gaps_of-gaps.ensures in
    (omega (arith, c.requires.0, count), (_, c.gaps_of-gaps.ensures))

pub returns : goal.returns
returns c =
    let a = c.args in
    chain-added a.t.now.firsts.now a.t.now.seconds.now a.t.now.own.now a.links c.gaps_of-gaps.ensures c.ascending_sum.ensures
