-- The merge plan by arrays.
use Rattle.std.specs.Prelude.{◌≡◌, cond, List, ℕ, ◌<◌, length, get_or}
use Rattle.lists.specs.Rows.{at}
use Rattle.position.specs.declared.WalkPosition.{WalkPosition}
use Rattle.grid.specs.Cells.{Grid}
use Rattle.serial_links.specs.Limits.{Limits}
use Rattle.context.specs.Listing.{Item}
use Rattle.serial_groups.specs.Tables.{LinkTable, Bridged}
use Rattle.serial_groups.specs.Plan.{merge_plan}
use Rattle.serial_plan.specs.Arrays.{part_from, joined_from, FirstAre}
use Rattle.serial_plan.specs.Shape.{both_on, flat_link_in}
use Rattle.serial_plan.specs.Told.{BoundaryTables, Passed, FlatInside}
use Rattle.serial_plan.specs.Into.{serial_into, flat_into}

-- the parts and the joined ranks of the chosen links
pub record LinkComponents (chosen firsts seconds : List ℕ) (links : ℕ) (parts joined : List ℕ) : Type 0 where
  pub parted : FirstAre (part_from chosen firsts seconds 0 links) 256 parts
  pub marked : FirstAre (λ i. cond (joined_from chosen firsts seconds 0 links i) 1 0) 256 joined

-- which rank each rank goes into by the serial groups, 256 where none has it
pub record SerialPlan (limits : Limits) (n : ℕ) (own bits lowers highers regions firsts seconds : List ℕ) (links : ℕ) (marks passing into : List ℕ) : Type
    0 where
  pub chosen : List ℕ
  pub parts : List ℕ
  pub joined : List ℕ
  pub selected : FirstAre (λ k. cond (both_on marks (at firsts k) (at seconds k)) 1 0) links chosen
  pub parted : LinkComponents chosen firsts seconds links parts joined
  pub goes : FirstAre (serial_into limits n own bits lowers highers regions firsts seconds links passing chosen joined parts) n into

-- the same by the flat groups of what the serial ones leave
pub record FlatPlan (limits : Limits) (n : ℕ) (own bits lowers highers regions firsts seconds : List ℕ) (links : ℕ) (flat serial into : List ℕ) : Type 0 where
  pub chosen : List ℕ
  pub parts : List ℕ
  pub joined : List ℕ
  pub selected : FirstAre (λ k. cond (flat_link_in limits own serial (at flat k) (at firsts k) (at seconds k)) 1 0) links chosen
  pub parted : LinkComponents chosen firsts seconds links parts joined
  pub goes : FirstAre (flat_into limits n own bits lowers highers regions firsts seconds links chosen joined parts) n into

-- the array is the merge plan of every listing that the tables tell of
pub record PlanOf (limits : Limits) (n : ℕ) (own bits lowers highers regions firsts seconds : List ℕ) (links : ℕ) (marks passing flat into : List ℕ) : Type
    0 where
  pub whole : length into ≡ 256
  pub each : (dirs : List ℕ) (g : Grid) (anchors : List WalkPosition) (l : List Item) → BoundaryTables dirs g l n own bits lowers highers
      → LinkTable dirs g anchors l regions firsts seconds links →
      Bridged dirs g l marks → Passed limits dirs g l regions firsts seconds passing links → FlatInside limits dirs g l regions firsts seconds flat links →
      (i : ℕ) → i < n → get_or into i 0 ≡ merge_plan limits dirs g anchors l i
