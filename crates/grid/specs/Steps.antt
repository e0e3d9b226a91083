-- The steps of a map, over a set of directions. Document 01: "A step is an unordered pair of walkable neighbours of eight;
-- a diagonal step also needs both side cells walkable."
use Rattle.std.specs.Prelude.{◌≡◌, Bool, true, not, ◌&&◌, ◌||◌, ℕ, ◌+◌, ◌*◌, ◌-◌, ◌<◌, ◌≤◌, leb, ltb, length}
use mathlib.Core.List.{List, map, Memᴰ}
use Rattle.position.specs.declared.WalkPosition.{WalkPosition}
use Rattle.order.specs.Lists.{keep, gather, up_from}
use Rattle.graph.specs.Path.{Edge}
use Rattle.grid.specs.Cells.{Grid, size, walkable, index_of, column_of, row_of}
use Rattle.grid.specs.Directions.{right, down, diagonal}

module _ (g : Grid) (i d : ℕ) where
  -- the direction leads from the cell to a column and a row of the map
  unfoldable pub leads_on : Bool
  leads_on = (ltb 0 (column_of g i + right d) && leb (column_of g i + right d) g.width) && (ltb 0 (row_of g i + down d) && leb (row_of g i + down d) g.height)

  abbrev pub column_to : ℕ
  column_to = column_of g i + right d - 1

  abbrev pub row_to : ℕ
  row_to = row_of g i + down d - 1

  -- the cell that it leads to, where it leads on
  abbrev pub neighbour : ℕ
  neighbour = index_of g column_to row_to

  -- the two cells beside a diagonal
  abbrev pub beside : ℕ
  beside = index_of g column_to (row_of g i)

  abbrev pub across : ℕ
  across = index_of g (column_of g i) row_to

  -- a step leads from the cell in the direction
  unfoldable pub has_step : Bool
  unfolding leads_on walkable diagonal
  has_step = leads_on && (walkable g i && (walkable g neighbour && (not (diagonal d) || (walkable g beside && walkable g across))))

-- a place of a map whose sides are at most 1,024 cells
pub record CellPlace (width height : ℕ) (cs : List ℕ) (position : WalkPosition) : Type 0 where
  pub wide : width ≤ 1024
  pub high : height ≤ 1024
  pub whole : length cs ≡ width * height
  pub column : position.x < width
  pub row : position.y < height

-- the meaning: the direction leads from i to j, both are walkable, and so are the side cells of a diagonal
pub record StepBy (g : Grid) (d i j : ℕ) : Type 0 where
  pub leads : leads_on g i d ≡ true
  pub there : neighbour g i d ≡ j
  pub from : walkable g i ≡ true
  pub to : walkable g j ≡ true
  pub sides : diagonal d ≡ true → (walkable g (beside g i d) ≡ true) × (walkable g (across g i d) ≡ true)

-- some direction of the set leads from i to j
pub record Step (dirs : List ℕ) (g : Grid) (i j : ℕ) : Type 0 where
  pub by : ℕ
  pub among : Memᴰ by dirs
  pub taken : StepBy g by i j

abbrev pub step_of : ℕ → ℕ → Edge
step_of i j = record { left = i; right = j }

-- the steps that lead from a cell to later ones
unfoldable pub steps_from : List ℕ → Grid → ℕ → List Edge
unfolding has_step keep
steps_from dirs g i = map (λ d. step_of i (neighbour g i d)) (keep (λ d. has_step g i d && ltb i (neighbour g i d)) dirs)

-- each step once, from its earlier cell, in row order
unfoldable pub steps : List ℕ → Grid → List Edge
unfolding steps_from gather up_from
steps dirs g = gather (steps_from dirs g) (up_from 0 (size g))
