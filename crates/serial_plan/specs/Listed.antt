-- What the arrays by rank say of a listing, all together, and what must hold for its merges to be planned from them.
use Rattle.std.specs.Prelude.{◌≡◌, List, ℕ, ◌+◌, ◌*◌, ◌≤◌, length}
use Rattle.format.specs.Bounds.{max_bases}
use Rattle.format.specs.Sizes.{base_size}
use Rattle.grid.specs.Cells.{Grid, map_of}
use Rattle.areas.specs.Spans.{Sides}
use Rattle.areas.specs.Words.{labels_in}
use Rattle.context.specs.AnchorLoop.{AnchorsIn}
use Rattle.context.specs.Listing.{Item}
use Rattle.serial_groups.specs.Regions.{region_labels}
use Rattle.serial_groups.specs.Tables.{Boundaries, Counted, Paired, Bridged}
use Rattle.serial_candidates.specs.Owners.{Stored}
use Rattle.serial_measures.specs.Tables.{Labels}
use Rattle.serial_measures.specs.Judging.{CoordinatesBounded}

-- n boundaries, the regions of the cells, what each span does to them, and which ones are bridges
pub record ListingTables (dirs : List ℕ) (g : Grid) (l : List Item) (n : ℕ) (own bits ramps labels removed separated owners lefts rights : List ℕ) (records : ℕ)
    (marks : List ℕ) : Type 0 where
  pub count : length l ≡ n
  pub told : Boundaries l own bits ramps
  pub labelled : labels ≡ region_labels dirs g l
  pub counted : Counted dirs g l removed separated
  pub paired : Paired dirs g l owners lefts rights records
  pub bridged : Bridged dirs g l marks

-- a map with labels in bytes, not too many bases with their anchors on it, arrays of plain numbers, room for the records, and some listing that they tell of
pub record PlanInput (job : List ℕ) (start bases : ℕ) (cells : List ℕ) (width height n : ℕ) (own bits ramps work removed separated owners lefts rights : List ℕ)
    (records : ℕ) : Type 0 where
  pub sides : Sides width height
  pub whole : length cells ≡ width * height
  pub labels : Labels work (length cells)
  pub few-bases : bases ≤ max_bases
  pub there : start + bases * base_size ≤ length job
  pub anchors : AnchorsIn job start bases width (length cells)
  pub plain : CoordinatesBounded own bits
  pub stored : Stored owners lefts rights records
  pub dirs : List ℕ
  pub items : List Item
  pub marks : List ℕ
  pub listed : ListingTables dirs (map_of width height cells) items n own bits ramps (labels_in work (length cells))
      removed separated owners lefts rights records marks
