use mathlib.Core.Bool.{◌&&◌}
use Rattle.std.proofs.Common.{◌∙◌, refl, ap, ap₂, arith}
use Rattle.grid.proofs.Reach.{grid_of, neighbour-on, place-column, place-row, place-on}
use Rattle.grid.proofs.Steps.{leads-means}
use Rattle.grid.specs.Cells.{walkable}
use Rattle.grid.proofs.neighbors.ends_walkable.Goals as goal

pub walkable_at-requires : goal.walkable_at-requires
walkable_at-requires c = rw (c.index.ensures (grid_of _ c.args.height c.args.cells.now) refl) (place-on c.requires.0)

pub neighbor-requires : goal.neighbor-requires
neighbor-requires c =
    let p = c.requires.0 in
    let m = leads-means _ _ _ c.requires.2 in
    omega (arith, place-column p, place-row p)

pub walkable_at-requires-2 : goal.walkable_at-requires-2
walkable_at-requires-2 c =
    let p = c.requires.0 in
    rw (c.neighbor.ensures (grid_of _ c.args.height c.args.cells.now) _ refl (place-column p) (place-row p))
    (neighbour-on _ p.whole _ _ (place-on p) c.requires.2)

pub returns : goal.returns
returns c =
    let g = grid_of c.args.width c.args.height c.args.cells.now in
    let p = c.requires.0 in
    λ k j e f.
    rw (e, f) (ap₂ ◌&&◌ (c.walkable_at.ensures g refl ∙ ap (walkable g) (c.index.ensures g refl))
    (c.walkable_at-2.ensures g refl ∙ ap (walkable g) (c.neighbor.ensures g _ refl (place-column p) (place-row p))))
