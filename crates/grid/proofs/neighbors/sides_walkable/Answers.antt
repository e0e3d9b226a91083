use Rattle.std.proofs.Common.{◌∙◌, refl, ap, arith}
use Rattle.grid.proofs.Reach.{grid_of, beside-on, across-on, place-column, place-row, place-on}
use Rattle.grid.proofs.Steps.{leads-means}
use Rattle.grid.specs.Cells.{walkable}
use Rattle.grid.proofs.neighbors.sides_walkable.Goals as goal

pub beside-requires : goal.beside-requires
beside-requires c =
    let p = c.requires.0 in
    let m = leads-means _ _ _ c.requires.2 in
    omega (arith, place-column p, place-row p)

pub walkable_at-requires : goal.walkable_at-requires
walkable_at-requires c =
    let p = c.requires.0 in
    rw (c.beside.ensures (grid_of _ c.args.height c.args.cells.now) _ refl (place-column p) (place-row p))
    (beside-on _ p.whole _ _ (place-on p) c.requires.2)

pub across-requires : goal.across-requires
across-requires c =
    let p = c.requires.0 in
    let m = leads-means _ _ _ c.requires.2 in
    omega (arith, place-column p, place-row p)

pub walkable_at-requires-2 : goal.walkable_at-requires-2
walkable_at-requires-2 c =
    let p = c.requires.0 in
    rw (c.across.ensures (grid_of _ c.args.height c.args.cells.now) _ refl (place-column p) (place-row p))
    (across-on _ p.whole _ _ (place-on p) c.requires.2)

pub returns : goal.returns
returns c =
    let g = grid_of c.args.width c.args.height c.args.cells.now in
    let p = c.requires.0 in
    let first = c.walkable_at.ensures g refl ∙ ap (walkable g) (c.beside.ensures g _ refl (place-column p) (place-row p)) in
    let second = c.walkable_at-2.ensures g refl ∙ ap (walkable g) (c.across.ensures g _ refl (place-column p) (place-row p)) in
    λ k j e f. rw (e, f, ← first, ← second) (grind arith)
