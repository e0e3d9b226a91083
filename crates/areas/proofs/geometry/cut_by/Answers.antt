use mathlib.Core.Path.{sym, ◌∙◌, ap, ap₂}
use Rattle.areas.specs.Cuts.{cuts, cut_by}
use Rattle.position.proofs.Order.{ordered}
use Rattle.position.specs.declared.Span.{Span}
use Rattle.grid.specs.Cells.{centre}
use Rattle.areas.proofs.geometry.cut_by.Goals as goal

pub returns : goal.returns
unfolding cut_by
returns c =
    λ g i j e f h k.
    c.cuts.ensures
    ∙ ap₂ (cuts c.args.span) (c.cell_center.ensures.value g i e f) (c.cell_center-2.ensures.value g j h k)
    ∙ ap (λ (s : Span). cuts s (centre g i) (centre g j)) (sym (ordered c.args.span c.requires.2))
