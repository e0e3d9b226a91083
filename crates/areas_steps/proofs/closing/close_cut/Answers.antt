use Rattle.std.proofs.Common.{ap, arith}
use Rattle.areas.specs.declared.candidates.CellRange.{CellRange}
use Rattle.areas_steps.proofs.Halves.{sides-of, half-start, half-end, before-axis, past-axis, axis-last}
use Rattle.areas_steps.proofs.closing.close_cut.Goals as goal

pub overflow_add-c-end : goal.overflow_add-c-end
overflow_add-c-end c = omega (arith, axis-last _ c.requires.0 c.strip_axis-range.ensures)

pub loop-c-init : goal.loop-c-init
loop-c-init c =
    let p = c.requires in
    let e = ap (λ (r : CellRange). r.first) c.strip_axis-range.ensures in
    λ g dirs ss b m hf.
    half-start g m.whole (sides-of m p.0) _ p.1.ordered _ (λ i l r z. before-axis m p.0 c.args.span i (omega arith) z) hf

pub close_line-requires : goal.close_line-requires
close_line-requires c =
    (omega (arith, c.loop-c.auto.work, c.requires.2), omega (arith, c.loop-c-test.true, (axis-last _ c.requires.0 c.strip_axis-range.ensures).0))

pub loop-c-preserved : goal.loop-c-preserved
loop-c-preserved c = λ g dirs ss b m hf. c.close_line.ensures g dirs ss b m (c.loop-c.invariant g dirs ss b m hf)

pub returns : goal.returns
returns c =
    let p = c.requires in
    let e = ap (λ (r : CellRange). r.last) c.strip_axis-range.ensures in
    let past = c.loop-c-test.false in
    λ g dirs ss b m hf.
    half-end g m.whole (sides-of m p.0) c.args.span p.1.ordered (λ i l q z. past-axis m p.0 c.args.span c.loop-c.c i l (omega arith) q z)
    (c.loop-c.invariant g dirs ss b m hf)
