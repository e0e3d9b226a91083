use Rattle.std.proofs.Common.{length, arith}
use Rattle.answer_sources.specs.Laying.{seen_count}
use Rattle.answer_gathering.specs.Runs.{going, places_at, seen_weight}
use Rattle.answer_gathering.proofs.Goings.{runs-start, runs-next, weight-next, runs-end, into-part}
use Rattle.answer_gathering.proofs.Sights.{places-long}
use Rattle.answer_gathering.proofs.seen.add_seens.Goals as goal

pub loop-j-init : goal.loop-j-init
loop-j-init c =
    let a = c.args in
    let among = length (going a.plan.now a.n a.i) in
    (runs-start (places_at a.base a.order.now a.firsts.now (seen_count a.job.now a.at) among) a.plan.now a.i _ _, omega arith)

pub add_seen-to-requires : goal.add_seen-to-requires
add_seen-to-requires c =
    let a = c.args in
    let inv = c.loop-j.invariant in
    let weighs = into-part a.plan.now (seen_weight a.order.now (seen_count a.job.now a.at)) a.i c.loop-j.j a.n (omega arith) in
    (c.requires.0, omega arith, c.requires.1, omega (arith, inv.1, weighs, c.requires.2, inv.0.long))

pub loop-j-preserved : goal.loop-j-preserved
loop-j-preserved c =
    let a = c.args in
    let inv = c.loop-j.invariant in
    let count = seen_count a.job.now a.at in
    let among = length (going a.plan.now a.n a.i) in
    let places = places_at a.base a.order.now a.firsts.now count among in (
      runs-next places a.plan.now c.loop-j.j a.i inv.0 c.add_seen-to.ensures,
      weight-next places a.plan.now c.loop-j.j a.i inv.0 c.add_seen-to.ensures (seen_weight a.order.now count)
          (places-long a.base a.order.now a.firsts.now count among c.loop-j.j) inv.1,
    )

pub returns : goal.returns
returns c =
    let a = c.args in
    let inv = c.loop-j.invariant in
    let count = seen_count a.job.now a.at in
    runs-end (places_at a.base a.order.now a.firsts.now count (length (going a.plan.now a.n a.i))) (seen_weight a.order.now count) a.plan.now a.i
    c.loop-j.j a.n inv.0 inv.1 (omega arith) (omega arith)
