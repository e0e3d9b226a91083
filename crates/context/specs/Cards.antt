-- Area cards. "writes for each label in order ten u32: its cell count, its pixel box (lowest column and row, highest column and row), 1 or 0 for a
-- ramp, and its four elevation counts, as `RegionStats` in source document 001 fills them."
use Rattle.std.specs.Prelude.{cond, ℕ}
use mathlib.Core.List.{List, ◌∷◌, flat_map}
use Rattle.order.specs.Lists.{up_from}
use Rattle.wire.specs.Bytes.{words}
use Rattle.grid.specs.Cells.{Grid}
use Rattle.context.specs.RegionStats.{RegionStats, region_stats}

-- ten u32
abbrev pub card_size : ℕ
card_size = 40

-- the ten numbers, in their order
unfoldable pub card_words : RegionStats → List ℕ
card_words s = s.cells ∷ s.min_x ∷ s.min_y ∷ s.max_x ∷ s.max_y ∷ cond s.has_ramp 1 0 ∷ s.elevation_counts

unfoldable pub card_bytes : RegionStats → List ℕ
unfolding words card_words
card_bytes s = words (card_words s)

-- "for each label in order": the cards of the labels 1 to n, without gaps
unfoldable pub cards : Grid → List ℕ → ℕ → List ℕ
unfolding flat_map card_bytes region_stats up_from
cards g ls n = flat_map (λ r. card_bytes (region_stats g ls r)) (up_from 1 n)
