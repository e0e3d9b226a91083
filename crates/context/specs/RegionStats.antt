-- Statistics of a region, as `RegionStats` of 001 has them: over all cells that have its label.
use Rattle.std.specs.Prelude.{◌≡◌, Bool, false, cond, ℕ, ◌+◌, ◌*◌, ltb, eqb, length}
use mathlib.Core.List.{List, [], ◌∷◌, map, Memᴰ}
use Rattle.order.specs.Lists.{keep, up_from}
use Rattle.grid.specs.Cells.{Grid, ramp_cell, elevation, column_of, row_of}
use Rattle.areas.specs.Areas.{label_at}
use Rattle.context.specs.Extremes.{least, greatest}

-- the box is in whole pixels, its right and lower edge past the last cell
pub record RegionStats : Type 0 where
  pub cells : ℕ
  pub min_x : ℕ
  pub min_y : ℕ
  pub max_x : ℕ
  pub max_y : ℕ
  pub has_ramp : Bool
  pub elevation_counts : List ℕ

-- the cells with the label, in row order
unfoldable pub region_cells : List ℕ → ℕ → List ℕ
unfolding keep up_from
region_cells ls r = keep (λ i. eqb r (label_at ls i)) (up_from 0 (length ls))

-- pixels from the map's left and upper edge to those of the cell
abbrev pub left_of : Grid → ℕ → ℕ
left_of g i = 8 * column_of g i

abbrev pub top_of : Grid → ℕ → ℕ
top_of g i = 8 * row_of g i

-- for every label, 0 of the blocked cells included; of one that no cell has, all is 0 and there is no ramp
unfoldable pub region_stats : Grid → List ℕ → ℕ → RegionStats
unfolding region_cells least greatest ramp_cell elevation
region_stats g ls r =
    let cs = region_cells ls r in
    record {
      cells = length cs;
      min_x = least (map (left_of g) cs);
      min_y = least (map (top_of g) cs);
      max_x = greatest (map (λ i. left_of g i + 8) cs);
      max_y = greatest (map (λ i. top_of g i + 8) cs);
      has_ramp = ltb 0 (length (keep (ramp_cell g) cs));
      elevation_counts = map (λ e. length (keep (λ i. eqb (elevation g i) e) cs)) (up_from 0 4);
    }

abbrev pub no_stats : RegionStats
no_stats = record { cells = 0; min_x = 0; min_y = 0; max_x = 0; max_y = 0; has_ramp = false; elevation_counts = 0 ∷ 0 ∷ 0 ∷ 0 ∷ [] }

-- how many of the four elevations occur
unfoldable pub elevation_kinds : RegionStats → ℕ
unfolding keep
elevation_kinds s = length (keep (ltb 0) s.elevation_counts)

-- 001's set of elevations: bit e is set if a cell has elevation e
unfoldable pub elevation_bits : List ℕ → ℕ
elevation_bits [] = 0
elevation_bits (n ∷ ns) = cond (ltb 0 n) 1 0 + 2 * elevation_bits ns

unfoldable pub elevations : RegionStats → ℕ
unfolding elevation_bits
elevations s = elevation_bits s.elevation_counts

-- the meaning of 1: the region has a cell, and all its cells are of one elevation
pub record OneElevation (g : Grid) (ls : List ℕ) (r : ℕ) : Type 0 where
  pub level : ℕ
  pub cell : ℕ
  pub inside : Memᴰ cell (region_cells ls r)
  pub is : elevation g cell ≡ level
  pub all : (i : ℕ) → Memᴰ i (region_cells ls r) → elevation g i ≡ level
