-- The areas that spans part a map into. Document 01: "Two walkable cells have one label exactly if a path of uncut steps exists;
-- labels run from 1 by the first cell in row order, blocked cells are 0."
use Rattle.std.specs.Prelude.{List, ℕ, eqb, length, get_or}
use Rattle.order.specs.Lists.{keep}
use Rattle.position.specs.declared.Span.{Span}
use Rattle.graph.specs.Labels.{labels, label_count}
use Rattle.grid.specs.Cells.{Grid, size, walkable}
use Rattle.areas.specs.Cuts.{uncut_steps}

module _ (dirs : List ℕ) (g : Grid) (ss : List Span) where
  -- the label of each cell, in row order
  unfoldable pub area_labels : List ℕ
  unfolding labels uncut_steps walkable
  area_labels = labels (size g) (walkable g) (uncut_steps dirs g ss)

  -- how many areas there are: they have the labels from 1 to it
  unfoldable pub area_count : ℕ
  unfolding label_count uncut_steps walkable
  area_count = label_count (size g) (walkable g) (uncut_steps dirs g ss)

-- the label of a cell
abbrev pub label_at : List ℕ → ℕ → ℕ
label_at ls i = get_or ls i 0

-- how many cells have the label
unfoldable pub cell_count : List ℕ → ℕ → ℕ
unfolding keep
cell_count ls r = length (keep (eqb r) ls)
