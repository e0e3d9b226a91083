-- What a step over the eight directions is, by columns and rows. Document 01: "an unordered pair of walkable neighbours of eight;
-- a diagonal step also needs both side cells walkable".
use Rattle.std.specs.Prelude.{◌≡◌, true, ℕ, ◌+◌, ◌≤◌}
use Rattle.grid.specs.Cells.{Grid, walkable, index_of, column_of, row_of}

-- two walkable cells, at most one column and one row apart; where both differ, the two cells at their columns and rows are walkable
pub record EightStep (g : Grid) (i j : ℕ) : Type 0 where
  pub from : walkable g i ≡ true
  pub to : walkable g j ≡ true
  pub apart : i ≡ j → ⊥
  pub columns : (column_of g i ≤ column_of g j + 1) × (column_of g j ≤ column_of g i + 1)
  pub rows : (row_of g i ≤ row_of g j + 1) × (row_of g j ≤ row_of g i + 1)
  pub sides : (column_of g i ≡ column_of g j → ⊥) → (row_of g i ≡ row_of g j → ⊥) →
      (walkable g (index_of g (column_of g j) (row_of g i)) ≡ true) × (walkable g (index_of g (column_of g i) (row_of g j)) ≡ true)
