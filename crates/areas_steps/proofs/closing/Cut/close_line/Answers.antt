use Rattle.std.proofs.Common.{◌<◌, cond, ◌∙◌, ap, arith}
use Rattle.areas.specs.Strip.{tall}
use Rattle.areas.specs.declared.candidates.CellRange.{CellRange}
use Rattle.areas_steps.proofs.Halves.{sides-of, half-skip, half_at, before-minor, past-minor, place-fits, rank-place, limit-small, minor-last}
use Rattle.areas_steps.proofs.closing.Cut.close_line.Goals as goal

pub strip_minor-range-requires : goal.strip_minor-range-requires
strip_minor-range-requires c =
    let cut = c.args.self in
    let q = limit-small cut.sides (tall cut.span) in
    (cut.sides, cut.fits, omega (arith, c.requires.1))

pub overflow_add-cm-end : goal.overflow_add-cm-end
overflow_add-cm-end c = omega (arith, minor-last _ _ c.args.self.sides c.strip_minor-range.ensures)

pub loop-cm-init : goal.loop-cm-init
loop-cm-init c =
    let cut = c.args.self in
    let e = ap (λ (r : CellRange). r.first) c.strip_minor-range.ensures in
    λ g dirs ss b m hf. half-skip g m.whole (sides-of m cut.sides) _ cut.fits.ordered _ (omega arith)
    (λ i l q r z. before-minor m cut.sides cut.span c.args.c i l q (omega arith) z) hf

pub close_cell-requires : goal.close_cell-requires
close_cell-requires c =
    let cut = c.args.self in
    let is-tall = c.is_tall-tall.ensures in
    let e = c.place_at.ensures in
    let on : c.loop-cm.cm < cond (tall cut.span) cut.width cut.height =
    omega (arith, (minor-last _ _ cut.sides c.strip_minor-range.ensures).0, c.loop-cm-test.true) in
    let f = place-fits (tall cut.span) cut.width cut.height c.args.c c.loop-cm.cm _ _ c.requires.1 on
    (e.0 ∙ ap (λ t. cond t c.loop-cm.cm c.args.c) is-tall) (e.1 ∙ ap (λ t. cond t c.args.c c.loop-cm.cm) is-tall) in
    (omega (arith, c.loop-cm.auto.work, c.requires.0), f.0, f.1)

pub loop-cm-preserved : goal.loop-cm-preserved
loop-cm-preserved c =
    let cm = c.loop-cm.cm in
    let small : cm < 1024 = omega (arith, c.loop-cm-test.true, minor-last _ _ c.args.self.sides c.strip_minor-range.ensures) in
    let r = rank-place _ _ _ cm _ _ c.is_tall-tall.ensures c.place_at.ensures.0 c.place_at.ensures.1 in
    λ g dirs ss b m hf.
    half_at _ (omega arith) (c.close_cell.ensures g dirs ss b m (half_at _ (omega arith) (c.loop-cm.invariant g dirs ss b m hf)))

pub returns : goal.returns
returns c =
    let cut = c.args.self in
    let e = ap (λ (r : CellRange). r.last) c.strip_minor-range.ensures in
    let past = c.loop-cm-test.false in
    λ g dirs ss b m hf.
    half-skip g m.whole (sides-of m cut.sides) _ cut.fits.ordered _ (omega arith)
    (λ i l q r z. past-minor m cut.sides cut.span c.args.c c.loop-cm.cm i l (omega arith) q r z) (c.loop-cm.invariant g dirs ss b m hf)
