-- Serial groups. Document 01: "every link passing, both nodes bridges", "A sum or end distance of exactly 384.0 passes".
use Rattle.std.specs.Prelude.{Bool, ◌&&◌, List, map, ℕ, Float, length}
use Rattle.std.specs.Float.Ieee.{le}
use Rattle.order.specs.Lists.{keep}
use Rattle.order.specs.Sorting.{sort}
use Rattle.length.specs.Total.{total_le}
use Rattle.length.specs.declared.Length.{Length}
use Rattle.position.specs.declared.WalkPosition.{WalkPosition}
use Rattle.grid.specs.Cells.{Grid}
use Rattle.serial_links.specs.Limits.{Limits}
use Rattle.serial_links.specs.Geometry.{squares, centre_distance, centre_length}
use Rattle.serial_sums.specs.Sums.{added_to, sum_of, ascending_sum}
use Rattle.serial_sums.specs.Totals.{all_exact}
use Rattle.order.specs.Tests.{every}
use Rattle.context.specs.Listing.{Item}
use Rattle.serial_groups.specs.Listing.{ends_at}
use Rattle.serial_groups.specs.Regions.{bridge_at}
use Rattle.serial_groups.specs.Links.{LinkAt, links}
use Rattle.serial_groups.specs.Measuring.{passes}
use Rattle.serial_groups.specs.Groups.{LinkGroup, groups_of}
use Rattle.serial_groups.specs.SimplePath.{first_end, last_end, ends_of, simple_path}

-- how far apart the centres of two ranks are
abbrev pub rank_distance : List Item → ℕ → ℕ → Float
rank_distance l i j = centre_distance (ends_at l i) (ends_at l j)

-- the sum of a group's centre distances, in ascending order
unfoldable pub chain_sum : List Item → LinkGroup → Float
unfolding ascending_sum sum_of added_to sort total_le squares
chain_sum l a = ascending_sum (map (λ (k : LinkAt). rank_distance l k.first k.second) a.links)

-- the distance between its two ends
unfoldable pub end_distance : List Item → LinkGroup → Float
unfolding ends_of squares
end_distance l a = rank_distance l (first_end a) (last_end a)

-- The same with their marks. Document 02: "a chain's total is said to be exact exactly if each part is".
abbrev pub rank_length : List Item → ℕ → ℕ → Length
rank_length l i j = centre_length (ends_at l i) (ends_at l j)

abbrev pub chain_total : List Item → LinkGroup → Length
chain_total l a = record { value = chain_sum l a; exact = all_exact (map (λ (k : LinkAt). rank_length l k.first k.second) a.links) }

abbrev pub end_length : List Item → LinkGroup → Length
end_length l a = rank_length l (first_end a) (last_end a)

unfoldable pub accepts_serial : Limits → List ℕ → Grid → List Item → LinkGroup → Bool
unfolding every passes simple_path chain_sum end_distance
accepts_serial limits dirs g l a =
    (every (passes limits dirs g l) a.links && simple_path limits dirs g l limits.least_spans a)
    && (le (chain_sum l a) limits.chain && le (end_distance l a) limits.chain)

-- the links whose two boundaries are bridges, passing or not
unfoldable pub serial_links : List ℕ → Grid → List WalkPosition → List Item → List LinkAt
unfolding links bridge_at keep
serial_links dirs g anchors l = keep (λ k. bridge_at dirs g l k.first && bridge_at dirs g l k.second) (links dirs g anchors l)

unfoldable pub serial_groups : Limits → List ℕ → Grid → List WalkPosition → List Item → List LinkGroup
unfolding serial_links accepts_serial groups_of keep
serial_groups limits dirs g anchors l = keep (accepts_serial limits dirs g l) (groups_of (length l) (serial_links dirs g anchors l))
