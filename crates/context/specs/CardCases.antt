-- A map of two rows and the cards of its two areas, worked out.
use Rattle.std.specs.Prelude.{◌≡◌, List, [], ◌∷◌, ℕ}
use Rattle.wire.specs.Bytes.{words}
use Rattle.grid.specs.Cells.{Grid, map_of}
use Rattle.context.specs.Cards.{cards}

-- Three columns and two rows: a ramp of elevation 0, a blocked ramp of elevation 3, a cell of elevation 2; two of elevation 1 and one of elevation 3.
abbrev pub six_cells : Grid
six_cells = map_of 3 2 (5 ∷ 28 ∷ 17 ∷ 9 ∷ 9 ∷ 25 ∷ [])

-- The cells to the left are one area, those to the right another.
abbrev pub two_areas : List ℕ
two_areas = 1 ∷ 0 ∷ 2 ∷ 1 ∷ 1 ∷ 2 ∷ []

-- cells; box; ramp; elevations: what the blocked cell has counts nowhere
pub record TwoCards : Type 0 where
  pub written : cards six_cells two_areas 2 ≡ words (3 ∷ 0 ∷ 0 ∷ 16 ∷ 16 ∷ 1 ∷ 1 ∷ 2 ∷ 0 ∷ 0 ∷ 2 ∷ 16 ∷ 0 ∷ 24 ∷ 16 ∷ 0 ∷ 0 ∷ 0 ∷ 1 ∷ 1 ∷ [])
