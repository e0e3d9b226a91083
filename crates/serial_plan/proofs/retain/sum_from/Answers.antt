use mathlib.Core.Path.{sym, ◌∙◌, ap, subst}
use Prim.Native.Nat.{ℕ, ◌+◌}
use Rattle.areas.specs.Spans.{span_in}
use Rattle.serial_links.specs.Geometry.{centre_length}
use Rattle.serial_sums.proofs.SumSteps.{SummedLengths, lengths-start, lengths-next}
use Rattle.serial_plan.specs.Fitting.{RankFits}
use Rattle.serial_plan.proofs.SumLaws.{distance_at, sum-listed}
use Rattle.serial_plan.proofs.retain.sum_from.Goals as goal

pub rank_distance-total-requires : goal.rank_distance-total-requires
rank_distance-total-requires c = (c.requires.2, subst (RankFits c.args.own.now) (sym c.index.ensures.0) (c.requires.1 0))

pub loop-j-init : goal.loop-j-init
loop-j-init c =
    let own = c.args.own.now in
    lengths-start (distance_at own c.args.i c.args.ranks) c.args.ranks.count c.requires.0
    (c.rank_distance-total.ensures ∙ ap (λ (k : ℕ). centre_length (span_in own c.args.i) (span_in own k)) c.index.ensures.0)

pub rank_distance-requires : goal.rank_distance-requires
rank_distance-requires c =
    (c.requires.2, subst (RankFits c.args.own.now) (sym c.index-in-loop-j.ensures.0) (c.requires.1 c.loop-j.j))

pub loop-j-preserved : goal.loop-j-preserved
loop-j-preserved c =
    let start = c.args in
    let own = start.own.now in
    subst (SummedLengths (distance_at own start.i start.ranks) start.ranks.count (c.loop-j.j + 1)) (sym c.plus-total.ensures)
    (lengths-next (distance_at own start.i start.ranks) start.ranks.count c.rank_distance.result c.loop-j.invariant
    c.loop-j-test.true
    (c.rank_distance.ensures
    ∙ ap (λ (k : ℕ). centre_length (span_in own start.i) (span_in own k)) c.index-in-loop-j.ensures.0))

pub returns : goal.returns
returns c =
    sum-listed c.args.own.now c.args.ranks c.args.i c.requires.0 c.loop-j.invariant c.loop-j-test.false
