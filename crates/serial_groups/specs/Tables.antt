-- What arrays by rank say of a listing: the code's view of it.
use Rattle.std.specs.Prelude.{◌≡◌, cond, List, ℕ, ◌<◌, ◌≤◌, length, get_or}
use Rattle.lists.specs.Rows.{rows}
use Rattle.position.specs.declared.WalkPosition.{WalkPosition}
use Rattle.format.specs.Bounds.{max_width_bits}
use Rattle.graph.specs.Records.{records_in}
use Rattle.grid.specs.Cells.{Grid}
use Rattle.position.specs.Bounds.{Bounded}
use Rattle.areas.specs.Spans.{span_in}
use Rattle.areas.specs.Assessments.{records}
use Rattle.context.specs.FullPair.{full_pair}
use Rattle.context.specs.Listing.{Item}
use Rattle.serial_groups.specs.Listing.{spans_of, boundary_at, ends_at, bits_at}
use Rattle.serial_groups.specs.Regions.{assess_at, bridge_at}
use Rattle.serial_groups.specs.Links.{LinkAt, links}

-- the boundaries: their own ends (four numbers each, the earlier end first), width bits and ramp ends
pub record Boundaries (l : List Item) (own bits ramps : List ℕ) : Type 0 where
  pub few : length l ≤ 256
  pub ends : (i : ℕ) → i < length l → ends_at l i ≡ span_in own i
  pub bounded : (i : ℕ) → i < length l → Bounded (ends_at l i).a × Bounded (ends_at l i).b
  pub widths : (i : ℕ) → i < length l → bits_at l i ≡ get_or bits i 0
  pub fitting : (i : ℕ) → i < length l → bits_at l i ≤ max_width_bits
  pub ramp-ends : (i : ℕ) → i < length l → (boundary_at l i).ramp.end ≡ get_or ramps i 0

module _ (dirs : List ℕ) (g : Grid) (l : List Item) where
  -- steps removed and separated by each span
  pub record Counted (removed separated : List ℕ) : Type 0 where
    pub removed-is : (i : ℕ) → i < length l → get_or removed i 0 ≡ (assess_at dirs g l i).removed
    pub separated-is : (i : ℕ) → i < length l → get_or separated i 0 ≡ (assess_at dirs g l i).separated

  -- the region pairs of all spans
  pub record Paired (owners lefts rights : List ℕ) (n : ℕ) : Type 0 where
    pub most : n ≤ 4096
    pub all : records_in owners lefts rights n ≡ records dirs g (spans_of l)

  -- how many pairs each span has, and its first one
  pub record FirstPairs (counts lowers highers : List ℕ) : Type 0 where
    pub counts-are : (i : ℕ) → i < length l → get_or counts i 0 ≡ length (assess_at dirs g l i).pairs
    pub lower-is : (i : ℕ) → i < length l → get_or lowers i 0 ≡ (full_pair (assess_at dirs g l i)).lower
    pub higher-is : (i : ℕ) → i < length l → get_or highers i 0 ≡ (full_pair (assess_at dirs g l i)).higher

  -- 1 for a bridge, 0 for any other
  pub record Bridged (marks : List ℕ) : Type 0 where
    pub marks-are : (i : ℕ) → i < length l → get_or marks i 0 ≡ cond (bridge_at dirs g l i) 1 0

-- link k of three arrays
abbrev pub link_row : List ℕ → List ℕ → List ℕ → ℕ → LinkAt
link_row regions firsts seconds k = record { region = get_or regions k 0; first = get_or firsts k 0; second = get_or seconds k 0 }

-- the first n of them
unfoldable pub links_in : List ℕ → List ℕ → List ℕ → ℕ → List LinkAt
unfolding rows
links_in regions firsts seconds n = rows n (link_row regions firsts seconds)

-- the links of the map, in the order of their regions
pub record LinkTable (dirs : List ℕ) (g : Grid) (anchors : List WalkPosition) (l : List Item) (regions firsts seconds : List ℕ) (n : ℕ) : Type 0 where
  pub most : n ≤ 256
  pub all : links_in regions firsts seconds n ≡ links dirs g anchors l
