use Rattle.std.proofs.Common.{◌≡◌, ◌<◌, length, arith}
use Rattle.grid.specs.Cells.{map_of}
use Rattle.areas.specs.Words.{labels_in}
use Rattle.context.proofs.CountLoop.{count-start, count_room, count_next, count-end}
use Rattle.context.proofs.stats.region_stats.Goals as goal

pub loop-i-init : goal.loop-i-init
loop-i-init c =
    let a = c.args in
    λ height. count-start c.none-stats.ensures (map_of a.width height a.cells.now) (labels_in a.labels.now (length a.cells.now)) a.region

pub counted-stats-requires : goal.counted-stats-requires
counted-stats-requires c =
    let a = c.args in
    let l : c.loop-i.i < 1048576 = omega (arith, c.loop-i-test.true, c.requires.1) in
    (count_room (map_of a.width 0 a.cells.now) a.labels.now (length a.cells.now) a.region (c.loop-i.invariant 0) l, l, c.requires.0)

pub loop-i-preserved : goal.loop-i-preserved
loop-i-preserved c =
    let a = c.args in
    λ height.
    count_next (map_of a.width height a.cells.now) a.labels.now (length a.cells.now) a.region (c.loop-i.invariant height) c.loop-i-test.true
    c.read_u32-label.ensures c.counted-stats.ensures

pub returns : goal.returns
returns c =
    let a = c.args in
    let all : c.loop-i.i ≡ length a.cells.now = omega (arith, c.loop-i.auto.i-end, c.loop-i-test.false) in
    λ height. count-end (map_of a.width height a.cells.now) a.labels.now (length a.cells.now) a.region (c.loop-i.invariant height) all
