-- Statistics of the regions of a small map, by computing.
use mathlib.Core.Path.{◌≡◌, refl}
use mathlib.Core.Bool.{true, false}
use mathlib.Core.List.{List, [], ◌∷◌}
use Prim.Native.Nat.{ℕ}
use Rattle.grid.specs.Cells.{Grid}
use Rattle.context.specs.RegionStats.{region_cells, region_stats, no_stats, elevation_kinds}

-- region 1 is an L of elevation 0 with a ramp at elevation 1, region 2 the right column
abbrev block : Grid
block = record { width = 3; height = 2; cells = 1 ∷ 1 ∷ 17 ∷ 0 ∷ 13 ∷ 17 ∷ [] }

abbrev regions : List ℕ
regions = 1 ∷ 1 ∷ 2 ∷ 0 ∷ 1 ∷ 2 ∷ []

first-cells : region_cells regions 1 ≡ 0 ∷ 1 ∷ 4 ∷ []
unfolding region_cells
first-cells = refl

first : region_stats block regions 1 ≡ record
    { cells = 3; min_x = 0; min_y = 0; max_x = 16; max_y = 16; has_ramp = true; elevation_counts = 2 ∷ 1 ∷ 0 ∷ 0 ∷ [] }
unfolding region_stats
first = refl

second : region_stats block regions 2 ≡ record
    { cells = 2; min_x = 16; min_y = 0; max_x = 24; max_y = 16; has_ramp = false; elevation_counts = 0 ∷ 0 ∷ 2 ∷ 0 ∷ [] }
unfolding region_stats
second = refl

third : region_stats block regions 3 ≡ no_stats
unfolding region_stats
third = refl

-- a region of two elevations, and a flat one
levels : (elevation_kinds (region_stats block regions 1) ≡ 2) × (elevation_kinds (region_stats block regions 2) ≡ 1)
unfolding region_stats elevation_kinds
levels = (refl, refl)
