-- The links of a listing with their marks, and the merge plan, by arrays.
use Rattle.std.specs.Prelude.{◌≡◌, List, ℕ, ◌<◌, length, get_or}
use Rattle.position.specs.declared.WalkPosition.{WalkPosition}
use Rattle.grid.specs.Cells.{Grid}
use Rattle.serial_links.specs.Limits.{Limits}
use Rattle.context.specs.AnchorLoop.{anchors_in}
use Rattle.context.specs.Listing.{Item}
use Rattle.serial_groups.specs.Plan.{merge_plan}
use Rattle.serial_groups.specs.Tables.{LinkTable}
use Rattle.serial_plan.specs.Arrays.{LinkRanks}
use Rattle.serial_plan.specs.Told.{BoundaryTables, Passed, FlatInside}
use Rattle.serial_plan.specs.Listed.{ListingTables}

-- the links of the listing, the first pairs of its boundaries, which links pass, and which are flat
pub record LinksTold (limits : Limits) (dirs : List ℕ) (g : Grid) (anchors : List WalkPosition) (l : List Item) (n : ℕ)
    (own bits lowers highers regions firsts seconds passing flat : List ℕ) (r : ℕ) : Type 0 where
  pub told : BoundaryTables dirs g l n own bits lowers highers
  pub linked : LinkTable dirs g anchors l regions firsts seconds r
  pub passed : Passed limits dirs g l regions firsts seconds passing r
  pub flat-inside : FlatInside limits dirs g l regions firsts seconds flat r

module _ (limits : Limits) (job : List ℕ) (start bases : ℕ) (g : Grid) (n : ℕ) (own bits ramps labels removed separated owners lefts rights : List ℕ)
    (records : ℕ) where
  -- these of any listing that the arrays tell of
  pub record LinksFrom (lowers highers regions firsts seconds passing flat : List ℕ) (r : ℕ) : Type 0 where
    pub ranked : LinkRanks n firsts seconds r
    pub each : (dirs : List ℕ) (anchors : List WalkPosition) (l : List Item) (marks : List ℕ)
        → ListingTables dirs g l n own bits ramps labels removed separated owners lefts rights records marks
        → anchors ≡ anchors_in job start bases → LinksTold limits dirs g anchors l n own bits lowers highers regions firsts seconds passing flat r

  -- the merge plan of any such listing
  pub record PlanFrom (marks into : List ℕ) : Type 0 where
    pub whole : length into ≡ 256
    pub each : (dirs : List ℕ) (anchors : List WalkPosition) (l : List Item)
        → ListingTables dirs g l n own bits ramps labels removed separated owners lefts rights records marks
        → anchors ≡ anchors_in job start bases → (i : ℕ) → i < n → get_or into i 0 ≡ merge_plan limits dirs g anchors l i
