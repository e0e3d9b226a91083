-- Where a direction leads on from a cell of the map, the cell that it leads to and the two beside it are on the map.
use mathlib.Core.Path.{◌≡◌, refl, sym}
use mathlib.Core.Bool.{Bool, true, false, not, ◌&&◌, ◌||◌}
use mathlib.Core.List.{List}
use Prim.Native.Nat.{ℕ, ◌+◌, ◌*◌, ◌<◌}
use native.Mathlib.Omega.{arith}
use native.Mathlib.Nat.{mul-le-mul_right}
use lib.ListN.{length}
use Rattle.position.specs.declared.WalkPosition.{WalkPosition}
use Rattle.order.proofs.Bools.{and_parts}
use Rattle.grid.specs.Cells.{Grid, Whole, size, walkable, index_of, column_of, row_of}
use Rattle.grid.specs.Directions.{diagonal}
use Rattle.grid.specs.Steps.{leads_on, column_to, row_to, neighbour, beside, across, has_step, CellPlace}
use Rattle.grid.proofs.Index.{column-of, row-of, column-in, row_in}
use Rattle.grid.proofs.Steps.{Leads, leads-means}

-- the map that a function is given
abbrev pub grid_of : ℕ → ℕ → List ℕ → Grid
grid_of w h cs = record { width = w; height = h; cells = cs }

pub index_in_lem : (g : Grid) → Whole g → (column row : ℕ) → column < g.width → row < g.height → index_of g column row < size g
index_in_lem g whole column row h k = omega (arith, mul-le-mul_right {m = row + 1} {n = g.height} g.width (omega arith))

module _ (g : Grid) (whole : Whole g) (i d : ℕ) (on : i < size g) (leads : leads_on g i d ≡ true) where
  pub neighbour-on : neighbour g i d < size g
  neighbour-on = go (leads-means g i d leads)
    where
      go : Leads g i d → neighbour g i d < size g
      go m = index_in_lem g whole (column_to g i d) (row_to g i d) (omega arith) (omega arith)

  pub beside-on : beside g i d < size g
  beside-on = go (leads-means g i d leads)
    where
      go : Leads g i d → beside g i d < size g
      go m = index_in_lem g whole (column_to g i d) (row_of g i) (omega arith) (row_in g whole i on)

  pub across-on : across g i d < size g
  across-on = go (leads-means g i d leads)
    where
      go : Leads g i d → across g i d < size g
      go m = index_in_lem g whole (column_of g i) (row_to g i d) (column-in g whole i on) (omega arith)

either-false : (s t u : Bool) → s && t ≡ false → false ≡ s && (t && u)
either-false true t u h = rw h
either-false false t u h = refl

-- the test, one part after the other
module _ (g : Grid) (i d : ℕ) where
  pub nowhere : leads_on g i d ≡ false → false ≡ has_step g i d
  unfolding has_step
  nowhere h = rw h

  module _ (leads : leads_on g i d ≡ true) where
    pub blocked : walkable g i && walkable g (neighbour g i d) ≡ false → false ≡ has_step g i d
    unfolding has_step
    blocked h = rw leads (either-false (walkable g i) (walkable g (neighbour g i d))
        (not (diagonal d) || (walkable g (beside g i d) && walkable g (across g i d))) h)

    module _ (ends : walkable g i && walkable g (neighbour g i d) ≡ true) where
      pub straight : diagonal d ≡ false → true ≡ has_step g i d
      unfolding has_step
      straight h = let p = and_parts (walkable g i) (walkable g (neighbour g i d)) ends in rw (leads, p.0, p.1, h)

      pub slanting : diagonal d ≡ true → {r : Bool} → r ≡ (walkable g (beside g i d) && walkable g (across g i d)) → r ≡ has_step g i d
      unfolding has_step
      slanting h k = let p = and_parts (walkable g i) (walkable g (neighbour g i d)) ends in rw (leads, p.0, p.1, h) k

-- the cell at a place of the map
module _ {w h : ℕ} {cs : List ℕ} {p : WalkPosition} (at : CellPlace w h cs p) where
  pub place-column : column_of (grid_of w h cs) (p.y * w + p.x) ≡ p.x
  place-column = column-of (grid_of w h cs) p.x p.y at.column

  pub place-row : row_of (grid_of w h cs) (p.y * w + p.x) ≡ p.y
  place-row = row-of (grid_of w h cs) p.x p.y at.column

  pub place-on : p.y * w + p.x < length cs
  place-on = index_in_lem (grid_of w h cs) at.whole p.x p.y at.column at.row

-- where the direction leads, as the code tells it
pub leads-told : (d : ℕ) {w h : ℕ} {cs : List ℕ} {p : WalkPosition} {r : Bool} → CellPlace w h cs p
    → ((g : Grid) (i : ℕ) → g.width ≡ w → g.height ≡ h → column_of g i ≡ p.x → row_of g i ≡ p.y → r ≡ leads_on g i d)
    → leads_on (grid_of w h cs) (p.y * w + p.x) d ≡ r
leads-told _ at told = sym (told _ _ refl refl (place-column at) (place-row at))
