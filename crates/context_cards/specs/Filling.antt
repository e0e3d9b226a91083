-- Cards as the code fills them: a cell more in the card of its label, cell after cell.
use Rattle.std.specs.Prelude.{◌≡◌, cond, List, ℕ, ◌+◌, ◌*◌, ◌-◌, ◌<◌, ◌≤◌, eqb, length, drop, replicate}
use Rattle.wire.specs.Bytes.{part, splice, u32_at}
use Rattle.grid.specs.Cells.{Grid}
use Rattle.areas.specs.Words.{word}
use Rattle.context.specs.Held.{CellRoom, stats_in, stats_with_cell, stats_after, first_cells}
use Rattle.context.specs.declared.stats.RegionStats.{RegionStats as StatsHeld}
use Rattle.context.specs.Cards.{card_size, card_bytes}

-- cells of a map, a label of at most `areas` for each, and room for the cards
pub record Fillable (width : ℕ) (cells labels : List ℕ) (areas : ℕ) (cards : List ℕ) : Type 0 where
  pub wide : 0 < width
  pub few : length cells ≤ 1048576
  pub long : length cells * 4 ≤ length labels
  pub areas-few : areas ≤ length cells
  pub each : (i : ℕ) → i < length cells → word labels i ≤ areas
  pub room : card_size * areas ≤ length cards

-- the first bytes are zeros now, and the others as they were
pub record Zeroed (start now : List ℕ) (to : ℕ) : Type 0 where
  pub zeros : now ≡ splice start 0 (replicate to 0)

-- where the card of a label starts; 0 has none
abbrev pub card_place : ℕ → ℕ
card_place label = card_size * (label - 1)

-- the statistics that the card at a place has
unfoldable pub card_read : List ℕ → ℕ → StatsHeld
card_read s at = record {
  cells = u32_at s at;
  min_x = u32_at s (at + 4);
  min_y = u32_at s (at + 8);
  max_x = u32_at s (at + 12);
  max_y = u32_at s (at + 16);
  has_ramp = eqb (u32_at s (at + 20)) 1;
  level_0 = u32_at s (at + 24);
  level_1 = u32_at s (at + 28);
  level_2 = u32_at s (at + 32);
  level_3 = u32_at s (at + 36);
}

-- each number is a u32
pub record CardFits (s : StatsHeld) : Type 0 where
  pub cells : s.cells < 4294967296
  pub left : s.min_x < 4294967296
  pub top : s.min_y < 4294967296
  pub right : s.max_x < 4294967296
  pub bottom : s.max_y < 4294967296
  pub first : s.level_0 < 4294967296
  pub second : s.level_1 < 4294967296
  pub third : s.level_2 < 4294967296
  pub fourth : s.level_3 < 4294967296

-- the label has a card, with room for another cell, or is 0
pub record CardRoom (s : List ℕ) (label : ℕ) : Type 0 where
  pub within : card_size * label ≤ length s
  pub more : 0 < label → CellRoom (card_read s (card_place label))

-- one cell more in the card of its label
unfoldable pub cell_counted : List ℕ → ℕ → ℕ → ℕ → ℕ → List ℕ
unfolding card_read stats_with_cell splice card_bytes
cell_counted s label column row cell =
    cond (eqb label 0) s (splice s (card_place label) (card_bytes (stats_in (stats_with_cell (card_read s (card_place label)) column row cell))))

-- after the first i cells each card has those of them that have its label, and the bytes behind the cards are as they were
pub record CardsAfter (g : Grid) (ls : List ℕ) (areas i : ℕ) (start now : List ℕ) : Type 0 where
  pub long : length now ≡ length start
  pub behind : drop (card_size * areas) now ≡ drop (card_size * areas) start
  pub card-is : (k : ℕ) → k < areas → part now (card_size * k) card_size ≡ card_bytes (stats_in (stats_after g (first_cells ls (k + 1) i)))
