-- Flat groups, of what the serial ones leave. Document 01: serial groups "come first, then flat groups (2 to 4), by 000's thresholds;
-- no boundary is in two accepted groups".
use Rattle.std.specs.Prelude.{Bool, not, ◌&&◌, List, ◌++◌, ℕ, eqb, length}
use Rattle.order.specs.Lists.{keep}
use Rattle.position.specs.declared.WalkPosition.{WalkPosition}
use Rattle.grid.specs.Cells.{Grid}
use Rattle.context.specs.RegionStats.{elevation_kinds}
use Rattle.serial_links.specs.Limits.{Limits}
use Rattle.serial_links.specs.Parallel.{nearby_parallel}
use Rattle.order.specs.Tests.{every}
use Rattle.context.specs.Listing.{Item}
use Rattle.serial_groups.specs.Listing.{ends_at}
use Rattle.serial_groups.specs.Regions.{stats_of}
use Rattle.serial_groups.specs.Links.{LinkAt, links}
use Rattle.serial_groups.specs.Measuring.{stays_inside}
use Rattle.serial_groups.specs.Groups.{LinkGroup, groups_of, in_any_link_group}
use Rattle.serial_groups.specs.SimplePath.{simple_path}
use Rattle.serial_groups.specs.Serial.{serial_groups}

-- the fewest boundaries of a flat group: 000 writes this number where it uses it
abbrev pub least_flat_spans : ℕ
least_flat_spans = 2

-- the spans of two ranks are nearby and parallel, the first with the second
abbrev pub alike : Limits → List Item → ℕ → ℕ → Bool
alike limits l i j = nearby_parallel limits (ends_at l i) (ends_at l j)

-- the region has no ramp cell and just one elevation
unfoldable pub is_flat : List ℕ → Grid → List Item → ℕ → Bool
unfolding stats_of elevation_kinds
is_flat dirs g l r = not (stats_of dirs g l r).has_ramp && eqb (elevation_kinds (stats_of dirs g l r)) 1

-- every ordered pair of members is nearby and parallel
unfoldable pub accepts_flat : Limits → List ℕ → Grid → List Item → LinkGroup → Bool
unfolding simple_path every nearby_parallel
accepts_flat limits dirs g l a = simple_path limits dirs g l least_flat_spans a && every (λ i. every (alike limits l i) a.ranks) a.ranks

module _ (limits : Limits) (dirs : List ℕ) (g : Grid) (anchors : List WalkPosition) (l : List Item) where
  -- the rank is in no accepted serial group
  abbrev pub is_left : ℕ → Bool
  is_left i = not (in_any_link_group (serial_groups limits dirs g anchors l) i)

  unfoldable pub is_flat_link : LinkAt → Bool
  unfolding stays_inside is_flat serial_groups in_any_link_group nearby_parallel
  is_flat_link k = (stays_inside limits dirs g l k && is_flat dirs g l k.region)
      && ((is_left k.first && is_left k.second) && alike limits l k.first k.second)

  unfoldable pub flat_links : List LinkAt
  unfolding is_flat_link links keep
  flat_links = keep is_flat_link (links dirs g anchors l)

  unfoldable pub flat_groups : List LinkGroup
  unfolding flat_links accepts_flat groups_of keep
  flat_groups = keep (accepts_flat limits dirs g l) (groups_of (length l) flat_links)

  -- serial ones, then flat ones
  unfoldable pub accepted : List LinkGroup
  unfolding serial_groups flat_groups
  accepted = serial_groups limits dirs g anchors l ++ flat_groups
