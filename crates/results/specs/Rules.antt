-- The merging rules of a map, as the groups that they accept.
use Rattle.std.specs.Prelude.{List, map, ℕ}
use Rattle.position.specs.declared.Span.{Span}
use Rattle.position.specs.declared.WalkPosition.{WalkPosition}
use Rattle.format.specs.Values.{Job}
use Rattle.grid.specs.Cells.{Grid}
use Rattle.context.specs.Anchors.{anchors_of}
use Rattle.context.specs.Listing.{Item, listing}
use Rattle.serial_links.specs.Limits.{Limits}
use Rattle.serial_groups.specs.Groups as Link
use Rattle.serial_groups.specs.Serial.{serial_groups}
use Rattle.serial_groups.specs.Flat.{flat_groups}
use Rattle.serial_groups.specs.Representative.{retained}
use Rattle.serial_merging.specs.Groups.{Group, Groups}
use Rattle.serial_merging.specs.Runs.{items_of, canon_item}

abbrev pub grid_of : Job → Grid
grid_of j = record { width = j.width; height = j.height; cells = j.cells }

-- A run's canonical copies in their listing, each with its span.
abbrev pub listing_of : Job → List Span → List Item
listing_of j ss = listing (map canon_item (items_of (record { boundaries = j.boundaries; spans = ss })))

-- A group of links with the member that it keeps.
abbrev pub group_of : Limits → List Item → Link.LinkGroup → Group
group_of limits l a = record { ranks = a.ranks; retained = retained limits l a.ranks }

-- "Serial groups come first, then flat groups", over a listing, on a map with these anchors.
unfoldable pub rules_on : Limits → List ℕ → Grid → List WalkPosition → List Item → Groups
unfolding serial_groups flat_groups retained
rules_on limits dirs g anchors l = record {
  serial = map (group_of limits l) (serial_groups limits dirs g anchors l);
  flat = map (group_of limits l) (flat_groups limits dirs g anchors l);
}

-- Those of a job: its boundaries play no part.
abbrev pub rules_of : Limits → List ℕ → Job → List Item → Groups
rules_of limits dirs j = rules_on limits dirs (grid_of j) (anchors_of j.bases)
