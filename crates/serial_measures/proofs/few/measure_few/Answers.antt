use mathlib.Core.Path.{◌≡◌}
use native.Mathlib.Omega.{arith}
use lib.ListN.{length}
use Rattle.lists.specs.Rows.{at}
use Rattle.serial_measures.specs.Judging.{value_in}
use Rattle.serial_measures.proofs.Reading.{area}
use Rattle.serial_measures.proofs.Meaning.{judge-start, judge-one, judge-end}
use Rattle.areas.proofs.Words.{labels-many}
use Rattle.serial_measures.proofs.few.measure_few.Goals as goal

pub loop-k-init : goal.loop-k-init
loop-k-init c = judge-start _

pub link_at-start-requires : goal.link_at-start-requires
link_at-start-requires c =
    let p = c.requires in
    (p.2, p.3.first c.loop-k.k c.loop-k-test.true, p.3.second c.loop-k.k c.loop-k-test.true)

pub measure_one-link-requires : goal.measure_one-link-requires
measure_one-link-requires c = let p = c.requires in (p.0.columns, area p.0.wide p.0.high p.1, p.5)

pub region_stats-stats-requires : goal.region_stats-stats-requires
region_stats-stats-requires c = let p = c.requires in (p.0.columns, area p.0.wide p.0.high p.1, p.5)

pub loop-k-preserved : goal.loop-k-preserved
loop-k-preserved c =
    let a = c.args in
    let l = c.loop-k in
    judge-one (labels-many a.work.now (length a.cells.now)) (omega (arith, c.requires.4)) l.invariant
    (c.measure_one-link.ensures (value_in a.own.now a.bits.now (at a.firsts.now l.k) (at a.seconds.now l.k)) c.link_at-start.ensures)
    (c.region_stats-stats.ensures a.height) c.passing_mark.ensures c.flat_mark.ensures c.inside_mark.ensures

pub returns : goal.returns
returns c = let all : c.loop-k.k ≡ c.args.links = omega arith in judge-end all c.loop-k.invariant
