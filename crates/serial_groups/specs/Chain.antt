-- Chains: groups that are a simple path between two different regions, by 000's `group_is_simple_path`: one link fewer than ranks,
-- two ends with one link, two links at every other rank, and different regions past the ends.
use Rattle.std.specs.Prelude.{◌≡◌, ◌↔◌, ◌⊎◌, ℕ, suc, ◌<◌, ◌≤◌, length}
use mathlib.Core.List.{List, Memᴰ}
use Rattle.grid.specs.Cells.{Grid}
use Rattle.areas.specs.Assessments.{RegionPair, Assessment}
use Rattle.serial_links.specs.Limits.{Limits}
use Rattle.context.specs.Listing.{Item}
use Rattle.serial_groups.specs.Regions.{assess_at}
use Rattle.serial_groups.specs.Links.{LinkAt}
use Rattle.serial_groups.specs.Groups.{LinkGroup}
use Rattle.serial_groups.specs.ConnectedPart.{LinkJoins, LinkOf}

module _ (a : LinkGroup) where
  -- of the group's links, k alone joins the rank
  pub record JoinedByOne (i : ℕ) (k : LinkAt) : Type 0 where
    pub mine : Memᴰ i a.ranks
    pub just : (h : LinkAt) → (LinkOf a h × LinkJoins h i) ↔ (h ≡ k)

  -- just two of them join the rank
  pub record JoinedByTwo (i : ℕ) : Type 0 where
    pub lower : LinkAt
    pub higher : LinkAt
    pub differ : lower.region < higher.region
    pub just : (h : LinkAt) → (LinkOf a h × LinkJoins h i) ↔ ((h ≡ lower) ⊎ (h ≡ higher))

-- a pair of the boundary has the region, and r is the pair's other one
pub record Beyond (s : Assessment) (region r : ℕ) : Type 0 where
  pub pair : RegionPair
  pub own : Memᴰ pair s.pairs
  pub other : ((region ≡ pair.lower) × (r ≡ pair.higher)) ⊎ ((region ≡ pair.higher) × (r ≡ pair.lower))

-- of at least so many boundaries, and at most the limit's
pub record Chain (limits : Limits) (dirs : List ℕ) (g : Grid) (l : List Item) (least : ℕ) (a : LinkGroup) : Type 0 where
  pub enough : least ≤ length a.ranks
  pub most : length a.ranks ≤ limits.most_spans
  pub one_fewer : suc (length a.links) ≡ length a.ranks
  -- two ends, each with its one link
  pub first : ℕ
  pub last : ℕ
  pub rising : first < last
  pub first-link : LinkAt
  pub last-link : LinkAt
  pub first-end : JoinedByOne a first first-link
  pub last-end : JoinedByOne a last last-link
  -- two links at every other rank
  pub inner : (i : ℕ) → Memᴰ i a.ranks → (i ≡ first → ⊥) → (i ≡ last → ⊥) → JoinedByTwo a i
  -- the regions past the two ends differ
  pub first-outer : ℕ
  pub last-outer : ℕ
  pub first-beyond : Beyond (assess_at dirs g l first) first-link.region first-outer
  pub last-beyond : Beyond (assess_at dirs g l last) last-link.region last-outer
  pub outer-differ : first-outer ≡ last-outer → ⊥
