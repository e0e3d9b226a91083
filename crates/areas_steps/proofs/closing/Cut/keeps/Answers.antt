use mathlib.Core.Bool.{not}
use mathlib.Core.List.{[]}
use Rattle.std.proofs.Common.{sym, ◌∙◌, ap, arith}
use Rattle.grid.proofs.Index.{column-of, row-of}
use Rattle.grid.proofs.Reach.{grid_of}
use Rattle.order.proofs.Bools.{clash}
use Rattle.areas_steps.proofs.Halves.{leads-near, beyond-told, ends-bounded}
use Rattle.areas_steps.proofs.closing.Cut.keeps.Goals as goal

pub returns-then-not-uncut : goal.returns-then-not-uncut
returns-then-not-uncut c = λ g i m e f ld. rw c.if-not-uncut.true

pub returns-then-not-leads_on : goal.returns-then-not-leads_on
returns-then-not-leads_on c =
    λ g i m e f ld. clash (ld c.if-not-uncut.false) (sym (c.leads_on.ensures g i m.columns m.rows e f) ∙ c.if-not-leads_on.true)

pub place_to-requires : goal.place_to-requires
place_to-requires c = let p = leads-near _ c.requires.0 c.leads_on.ensures c.if-not-leads_on.false in omega arith

pub cut_by-requires : goal.cut_by-requires
cut_by-requires c =
    let a = c.args in
    let g = grid_of a.self.width a.self.height [] in
    let col = column-of g _ _ c.requires.0 in
    let row = row-of g _ _ c.requires.0 in
    let p = leads-near _ c.requires.0 c.leads_on.ensures c.if-not-leads_on.false in
    let b = ends-bounded a.self.sides a.self.fits in
    let to = c.place_to.ensures.0 g _ col row in
    (b.0, b.1, a.self.fits.ordered, omega arith, omega arith, omega (arith, to.0, col), omega (arith, to.1, row))

pub returns : goal.returns
returns c =
    λ g i m e f ld.
    let p = beyond-told g i _ (sym (c.leads_on.ensures g i m.columns m.rows e f) ∙ c.if-not-leads_on.false) (c.place_to.ensures.0 g i e f) in
    rw c.if-not-uncut.false (ap not (c.cut_by.ensures g i _ e f p.0 p.1))
