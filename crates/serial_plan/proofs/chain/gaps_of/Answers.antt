use mathlib.Core.Path.{sym, ◌∙◌, ap, subst}
use native.Mathlib.Omega.{arith}
use Rattle.serial_sums.proofs.PartLaws.{parts-start, parts-count, parts_next}
use Rattle.serial_plan.specs.Fitting.{LinkFits}
use Rattle.serial_plan.specs.Shape.{gap_length_in}
use Rattle.serial_plan.proofs.SumLaws.{gap_at, gap-value, gaps-end}
use Rattle.serial_plan.proofs.chain.gaps_of.Goals as goal

pub loop-j-init : goal.loop-j-init
loop-j-init c =
    let start = c.args in
    (omega arith, parts-start (gap_at start.t.now.firsts.now start.t.now.seconds.now start.t.now.own.now start.links) c.none-gaps.ensures)

pub gap-requires : goal.gap-requires
gap-requires c =
    subst (LinkFits c.args.t.now.own.now c.args.t.now.firsts.now c.args.t.now.seconds.now) (sym c.index-k.ensures.0)
    (c.requires.1 c.loop-j.j)

pub with-gaps-requires : goal.with-gaps-requires
with-gaps-requires c =
    let a = c.args in
    let count = parts-count (gap_at a.t.now.firsts.now a.t.now.seconds.now a.t.now.own.now a.links) c.loop-j.invariant.1 in
    (omega (arith, count, c.loop-j-test.true, c.requires.0), gap-value a.t.now.firsts.now a.t.now.seconds.now a.t.now.own.now _ c.gap.ensures)

pub loop-j-preserved : goal.loop-j-preserved
loop-j-preserved c =
    let a = c.args in (
      omega (arith, c.loop-j-test.true),
      parts_next (gap_at a.t.now.firsts.now a.t.now.seconds.now a.t.now.own.now a.links) c.loop-j.invariant.1
          (c.gap.ensures ∙ ap (gap_length_in a.t.now.firsts.now a.t.now.seconds.now a.t.now.own.now) c.index-k.ensures.0)
          c.with-gaps.ensures,
    )

pub returns : goal.returns
returns c =
    let a = c.args in
    let inv = c.loop-j.invariant in
    gaps-end a.t.now.firsts.now a.t.now.seconds.now a.t.now.own.now a.links inv.1 (omega (arith, inv.0, c.loop-j-test.false))
