-- Links by the arrays that hold them: what the pass over the cells holds of each, and what is judged of each.
use Rattle.std.specs.Prelude.{◌≡◌, Bool, cond, not, ◌&&◌, List, ℕ, ◌≤◌, ◌<◌, eqb, length, get_or}
use Rattle.lists.specs.Rows.{at}
use Rattle.grid.specs.Cells.{Grid}
use Rattle.areas.specs.Spans.{span_in}
use Rattle.serial_links.specs.Limits.{Limits}
use Rattle.serial_links.specs.Link.{Link, link_of}
use Rattle.serial_links.specs.Measure.{passing}
use Rattle.serial_links.specs.HeldLink.{side, no_cell, link_after, measured_in}
use Rattle.serial_links.specs.declared.link.Link.{Link as LinkHeld}
use Rattle.context.specs.RegionStats.{elevation_kinds}
use Rattle.context.specs.Held.{stats_in, stats_after, first_cells}
use Rattle.context.specs.declared.stats.RegionStats.{RegionStats as StatsHeld}
use Rattle.context.specs.Listing.{Item}
use Rattle.serial_groups.specs.Regions.{region_labels}
use Rattle.serial_groups.specs.Measuring.{passes, stays_inside}
use Rattle.serial_groups.specs.Flat.{is_flat}
use Rattle.serial_groups.specs.Tables.{Boundaries, link_row}

-- each coordinate is at most 8 · 1,024, and each width at most that of a job
pub record CoordinatesBounded (own bits : List ℕ) : Type 0 where
  pub coordinate : (i : ℕ) → i < 1024 → at own i ≤ 8192
  pub width : (i : ℕ) → i < 256 → at bits i ≤ 0x40D0_0000_0000_0000

-- the ranks of the links are places of the arrays
pub record LinkEndsInside (firsts seconds : List ℕ) (links : ℕ) : Type 0 where
  pub first : (k : ℕ) → k < links → at firsts k < 256
  pub second : (k : ℕ) → k < links → at seconds k < 256

-- the link of two ranks
abbrev pub value_in : List ℕ → List ℕ → ℕ → ℕ → Link
value_in own bits first second = link_of (side (span_in own first) (at bits first)) (side (span_in own second) (at bits second))

-- a link without a cell for each of the first k
pub record EmptyLinks (own bits firsts seconds : List ℕ) (k : ℕ) (table : List LinkHeld) : Type 0 where
  pub long : length table ≡ 256
  pub link-is : (j : ℕ) (d : LinkHeld) → j < k → get_or table j d ≡ no_cell (value_in own bits (at firsts j) (at seconds j))

-- a link that began without a cell has those of the region among the first n
abbrev pub AllCells : Limits → ℕ → List ℕ → ℕ → ℕ → LinkHeld → LinkHeld → Type 0
AllCells limits width ls region n start r = (k : Link) → start ≡ no_cell k → r ≡ link_after limits k width (first_cells ls region n)

-- the cells of a region stay inside the flat envelope, none is a ramp, and they have one elevation
abbrev pub flat_in : LinkHeld → StatsHeld → Bool
flat_in link stats = link.inside && (not stats.has_ramp && eqb (elevation_kinds (stats_in stats)) 1)

module _ (limits : Limits) (own bits regions firsts seconds : List ℕ) (g : Grid) (ls : List ℕ) where
  -- link k and its statistics, after the first i cells of the map
  abbrev pub link_now : ℕ → ℕ → LinkHeld
  link_now k i = link_after limits (value_in own bits (at firsts k) (at seconds k)) g.width (first_cells ls (at regions k) i)

  abbrev pub stats_now : ℕ → ℕ → StatsHeld
  stats_now k i = stats_after g (first_cells ls (at regions k) i)

  pub record Running (links i : ℕ) (table : List LinkHeld) (stats : List StatsHeld) : Type 0 where
    pub long : length table ≡ 256
    pub stats-long : length stats ≡ 256
    pub link-is : (k : ℕ) (d : LinkHeld) → k < links → get_or table k d ≡ link_now k i
    pub stats-is : (k : ℕ) (d : StatsHeld) → k < links → get_or stats k d ≡ stats_now k i

  -- the first k links are judged by the first n cells
  pub record Judged (n k : ℕ) (passing-marks flat-marks inside-marks : List ℕ) : Type 0 where
    pub long : length passing-marks ≡ 256
    pub flat-long : length flat-marks ≡ 256
    pub inside-long : length inside-marks ≡ 256
    pub passing-is : (j : ℕ) → j < k → at passing-marks j ≡ cond (passing (measured_in limits (link_now j n))) 1 0
    pub flat-is : (j : ℕ) → j < k → at flat-marks j ≡ cond (flat_in (link_now j n) (stats_now j n)) 1 0
    pub inside_is : (j : ℕ) → j < k → at inside-marks j ≡ cond (link_now j n).inside 1 0

  -- where the arrays are those of a listing, and the labels those of its regions: which links pass, which are flat, and which stay inside
  pub record Measured (links : ℕ) (passing-marks flat-marks inside-marks : List ℕ) : Type 0 where
    pub passing-is : (dirs : List ℕ) (l : List Item) (ramps : List ℕ) → Boundaries l own bits ramps → ls ≡ region_labels dirs g l → (k : ℕ) → k < links
        → at firsts k < length l → at seconds k < length l
        → at passing-marks k ≡ cond (passes limits dirs g l (link_row regions firsts seconds k)) 1 0
    pub flat-is : (dirs : List ℕ) (l : List Item) (ramps : List ℕ) → Boundaries l own bits ramps → ls ≡ region_labels dirs g l → (k : ℕ) → k < links
        → at firsts k < length l → at seconds k < length l
        → at flat-marks k ≡ cond (stays_inside limits dirs g l (link_row regions firsts seconds k) && is_flat dirs g l (at regions k)) 1 0
    pub inside_is : (dirs : List ℕ) (l : List Item) (ramps : List ℕ) → Boundaries l own bits ramps → ls ≡ region_labels dirs g l → (k : ℕ) → k < links
        → at firsts k < length l → at seconds k < length l
        → at inside-marks k ≡ cond (stays_inside limits dirs g l (link_row regions firsts seconds k)) 1 0
