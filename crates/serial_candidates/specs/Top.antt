-- What the arrays say of the links of a listing.
use Rattle.std.specs.Prelude.{◌≡◌, List, ℕ, length}
use Rattle.position.specs.declared.WalkPosition.{WalkPosition}
use Rattle.grid.specs.Cells.{Grid}
use Rattle.context.specs.AnchorLoop.{anchor_labels}
use Rattle.context.specs.Listing.{Item}
use Rattle.serial_groups.specs.Regions.{region_labels}
use Rattle.serial_groups.specs.Tables.{Boundaries, Counted, Paired, FirstPairs, LinkTable}

-- of any listing that the arrays tell of, with anchors that have the labels: its links and first pairs
pub record CandidateLinks (among : List ℕ) (n : ℕ) (own ramps removed separated owners lefts rights : List ℕ)
    (records : ℕ)
    (counts lowers highers regions firsts seconds : List ℕ) (r : ℕ) : Type 0 where
  pub first-pairs : (dirs : List ℕ) (g : Grid) (l : List Item) (bits : List ℕ) → length l ≡ n → Boundaries l own bits ramps
      → Paired dirs g l owners lefts rights records → FirstPairs dirs g l counts lowers highers
  pub linked : (dirs : List ℕ) (g : Grid) (anchors : List WalkPosition) (l : List Item) (bits : List ℕ) → length l ≡ n → Boundaries l own bits ramps
      → Counted dirs g l removed separated → Paired dirs g l owners lefts rights records
      → among ≡ anchor_labels g.width (region_labels dirs g l) anchors
      → LinkTable dirs g anchors l regions firsts seconds r
