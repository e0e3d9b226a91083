-- Accepted serial groups, in document 01's words: "Serial groups (3 or 4 spans, every link passing, both nodes bridges)",
-- "by 000's thresholds", "A sum or end distance of exactly 384.0 passes".
use Rattle.std.specs.Prelude.{◌≡◌, true, List, map, ℕ, Float}
use Rattle.std.specs.Float.Ieee.{le}
use Rattle.position.specs.declared.WalkPosition.{WalkPosition}
use Rattle.graph.specs.Bridges.{Bridge}
use Rattle.grid.specs.Cells.{Grid}
use Rattle.areas.specs.Assessments.{records}
use Rattle.serial_links.specs.Limits.{Limits}
use Rattle.serial_links.specs.Geometry.{centre_distance}
use Rattle.serial_sums.specs.Sums.{ascending_sum}
use Rattle.serial_links.specs.Measure.{measured, within}
use Rattle.context.specs.Listing.{Item}
use Rattle.serial_groups.specs.Listing.{spans_of, ends_at}
use Rattle.serial_groups.specs.Regions.{cells_of}
use Rattle.serial_groups.specs.Links.{LinkAt}
use Rattle.serial_groups.specs.Measuring.{value_of}
use Rattle.serial_groups.specs.Groups.{LinkGroup}
use Rattle.serial_groups.specs.LinkRule.{Gives}
use Rattle.serial_groups.specs.ConnectedPart.{LinkOf, ConnectedPart}
use Rattle.serial_groups.specs.Chain.{Chain}

module _ (dirs : List ℕ) (g : Grid) (anchors : List WalkPosition) (l : List Item) where
  -- "both nodes bridges": whether the link passes is of no account
  pub record SerialLink (k : LinkAt) : Type 0 where
    pub gives : Gives dirs g anchors l k
    pub first-bridge : Bridge (records dirs g (spans_of l)) k.first
    pub second-bridge : Bridge (records dirs g (spans_of l)) k.second

-- "The measured link is empty, or within, or beyond": it is within, with these envelopes
pub record Passes (limits : Limits) (dirs : List ℕ) (g : Grid) (l : List Item) (k : LinkAt) : Type 0 where
  pub transverse : Float
  pub longitudinal : Float
  pub is : measured limits (value_of l k) g.width (cells_of dirs g l k.region) ≡ within transverse longitudinal

module _ (limits : Limits) (dirs : List ℕ) (g : Grid) (anchors : List WalkPosition) (l : List Item) where
  pub record SerialGroup (a : LinkGroup) : Type 0 where
    pub part : ConnectedPart (SerialLink dirs g anchors l) a
    -- "every link passing": one that fails rejects the whole part
    pub passing : (k : LinkAt) → LinkOf a k → Passes limits dirs g l k
    -- "3 or 4 spans"
    pub chain : Chain limits dirs g l limits.least_spans a
    -- the sum of its centre distances, in ascending order
    pub sum : le (ascending_sum (map (λ (k : LinkAt). centre_distance (ends_at l k.first) (ends_at l k.second)) a.links)) limits.chain ≡ true
    -- the distance of its ends
    pub ends : le (centre_distance (ends_at l chain.first) (ends_at l chain.last)) limits.chain ≡ true
