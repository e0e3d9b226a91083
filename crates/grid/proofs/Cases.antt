-- Small maps, by computing.
use mathlib.Core.Path.{◌≡◌, refl}
use mathlib.Core.Bool.{true}
use mathlib.Core.List.{List, [], ◌∷◌}
use Prim.Native.Nat.{ℕ}
use Rattle.grid.specs.Cells.{Grid, walkable, ramp_cell, elevation, centre}
use Rattle.grid.specs.Directions.{eight, four}
use Rattle.grid.specs.Steps.{neighbour, step_of, steps}

abbrev square : List ℕ → Grid
square cells = record { width = 2; height = 2; cells = cells }

-- the byte of a walkable ramp cell of elevation 3
cell-byte : (walkable (square (29 ∷ [])) 0 ≡ true) × (ramp_cell (square (29 ∷ [])) 0 ≡ true) × (elevation (square (29 ∷ [])) 0 ≡ 3)
unfolding walkable ramp_cell elevation
cell-byte = (refl, refl, refl)

last-centre : centre (square []) 3 ≡ record { x = 12; y = 12 }
last-centre = refl

-- down and to the left
down-left : neighbour (square []) 1 6 ≡ 2
down-left = refl

all-steps : steps eight (square (1 ∷ 1 ∷ 1 ∷ 1 ∷ [])) ≡ step_of 0 1 ∷ step_of 0 2 ∷ step_of 0 3 ∷ step_of 1 2 ∷ step_of 1 3 ∷ step_of 2 3 ∷ []
unfolding steps
all-steps = refl

four-steps : steps four (square (1 ∷ 1 ∷ 1 ∷ 1 ∷ [])) ≡ step_of 0 1 ∷ step_of 0 2 ∷ step_of 1 3 ∷ step_of 2 3 ∷ []
unfolding steps
four-steps = refl

-- one blocked side cell bars the diagonal
barred : steps eight (square (1 ∷ 0 ∷ 1 ∷ 1 ∷ [])) ≡ step_of 0 2 ∷ step_of 2 3 ∷ []
unfolding steps
barred = refl
