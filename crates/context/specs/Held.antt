-- Statistics as the code holds them: what a cell does to them, and what they are after some cells; labels in bytes; anchors on the map.
use Rattle.std.specs.Prelude.{◌≡◌, Bool, cond, ◌&&◌, ◌||◌, List, [], ◌∷◌, map, ℕ, ◌+◌, ◌*◌, ◌/◌, ◌%◌, ◌<◌, min, max, ltb, eqb, length}
use Rattle.order.specs.Lists.{keep, up_from}
use Rattle.position.specs.declared.WalkPosition.{WalkPosition}
use Rattle.format.specs.Sizes.{no_anchor}
use Rattle.grid.specs.Cells.{Grid, ramp_cell, elevation}
use Rattle.areas.specs.Areas.{label_at}
use Rattle.context.specs.Extremes.{least, greatest}
use Rattle.context.specs.RegionStats.{RegionStats, left_of, top_of}
use Rattle.context.specs.declared.stats.RegionStats.{RegionStats as StatsHeld}

-- The statistics that they are.
abbrev pub stats_in : StatsHeld → RegionStats
stats_in s = record {
  cells = s.cells;
  min_x = s.min_x;
  min_y = s.min_y;
  max_x = s.max_x;
  max_y = s.max_y;
  has_ramp = s.has_ramp;
  elevation_counts = s.level_0 ∷ s.level_1 ∷ s.level_2 ∷ s.level_3 ∷ [];
}

-- There is room for another cell.
pub record CellRoom (s : StatsHeld) : Type 0 where
  pub cells : s.cells < 4294967295
  pub first : s.level_0 < 4294967295
  pub second : s.level_1 < 4294967295
  pub third : s.level_2 < 4294967295
  pub fourth : s.level_3 < 4294967295

abbrev pub one : Bool → ℕ
one t = cond t 1 0

-- The least of n numbers and another.
abbrev pub lesser : ℕ → ℕ → ℕ → ℕ
lesser n x y = cond (eqb n 0) y (min x y)

-- One cell more, at a column and a row.
unfoldable pub stats_with_cell : StatsHeld → ℕ → ℕ → ℕ → StatsHeld
stats_with_cell s column row cell = record {
  cells = s.cells + 1;
  min_x = lesser s.cells s.min_x (8 * column);
  min_y = lesser s.cells s.min_y (8 * row);
  max_x = max s.max_x (8 * column + 8);
  max_y = max s.max_y (8 * row + 8);
  has_ramp = s.has_ramp || eqb (cell / 4 % 2) 1;
  level_0 = s.level_0 + one (eqb (cell / 8 % 4) 0);
  level_1 = s.level_1 + one (eqb (cell / 8 % 4) 1);
  level_2 = s.level_2 + one (eqb (cell / 8 % 4) 2);
  level_3 = s.level_3 + one (eqb (cell / 8 % 4) 3);
}

-- How many of the cells have the elevation.
abbrev pub level_count : Grid → ℕ → List ℕ → ℕ
level_count g e cs = length (keep (λ i. eqb (elevation g i) e) cs)

-- After some cells of the map.
unfoldable pub stats_after : Grid → List ℕ → StatsHeld
unfolding keep least greatest ramp_cell elevation
stats_after g cs = record {
  cells = length cs;
  min_x = least (map (left_of g) cs);
  min_y = least (map (top_of g) cs);
  max_x = greatest (map (λ i. left_of g i + 8) cs);
  max_y = greatest (map (λ i. top_of g i + 8) cs);
  has_ramp = ltb 0 (length (keep (ramp_cell g) cs));
  level_0 = level_count g 0 cs;
  level_1 = level_count g 1 cs;
  level_2 = level_count g 2 cs;
  level_3 = level_count g 3 cs;
}

-- After none, on any map.
pub record NoCells (s : StatsHeld) : Type 0 where
  pub after : (g : Grid) → s ≡ stats_after g []

-- Of the first n cells, those with the label.
unfoldable pub first_cells : List ℕ → ℕ → ℕ → List ℕ
unfolding keep up_from
first_cells ls r n = keep (λ i. eqb r (label_at ls i)) (up_from 0 n)

-- "both 4,294,967,295 means no anchor"
abbrev pub is_none : WalkPosition → Bool
is_none p = eqb p.x no_anchor && eqb p.y no_anchor
