-- The links of the map, measured by the cells of their regions. Document 01: "The measured link is empty, or within, or beyond, the last two carrying
-- both envelopes."
use Rattle.std.specs.Prelude.{Bool, List, ℕ}
use Rattle.grid.specs.Cells.{Grid}
use Rattle.serial_links.specs.Limits.{Limits}
use Rattle.serial_links.specs.Link.{Side, Link, link_of, widened_by}
use Rattle.serial_links.specs.Measure.{Measured, extremes, judged, measured, passing}
use Rattle.serial_links.specs.Flat.{inside_flat}
use Rattle.context.specs.Listing.{Item}
use Rattle.serial_groups.specs.Listing.{ends_at, bits_at}
use Rattle.serial_groups.specs.Regions.{cells_of}
use Rattle.serial_groups.specs.Links.{LinkAt}

-- what a link sees of a rank: its own ends and its width
abbrev pub side_at : List Item → ℕ → Side
side_at l i = record { span = ends_at l i; bits = bits_at l i }

-- the link's directions, centres and bounds
abbrev pub value_of : List Item → LinkAt → Link
value_of l k = link_of (side_at l k.first) (side_at l k.second)

module _ (limits : Limits) (dirs : List ℕ) (g : Grid) (l : List Item) where
  -- measured by the cells of its region
  unfoldable pub measured_at : LinkAt → Measured
  unfolding link_of widened_by measured judged extremes cells_of
  measured_at k = measured limits (value_of l k) g.width (cells_of dirs g l k.region)

  unfoldable pub passes : LinkAt → Bool
  unfolding measured_at
  passes k = passing (measured_at k)

  -- its region stays inside the flat envelope
  unfoldable pub stays_inside : LinkAt → Bool
  unfolding link_of widened_by inside_flat cells_of
  stays_inside k = inside_flat limits (value_of l k) g.width (cells_of dirs g l k.region)
