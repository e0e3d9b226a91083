-- What the arrays say of a listing, and groups by arrays.
use Rattle.std.specs.Prelude.{◌≡◌, Bool, ◌&&◌, List, map, ℕ, ◌<◌, length, get_or}
use Rattle.std.specs.Float.Ieee.{le}
use Rattle.areas.specs.Assessments.{region_pair}
use Rattle.lists.specs.Rows.{at}
use Rattle.grid.specs.Cells.{Grid}
use Rattle.areas.specs.Spans.{span_in}
use Rattle.context.specs.FullPair.{full_pair}
use Rattle.context.specs.Listing.{Item}
use Rattle.serial_links.specs.Limits.{Limits}
use Rattle.serial_links.specs.Geometry.{squares, centre_distance}
use Rattle.order.specs.Tests.{every}
use Rattle.serial_groups.specs.Listing.{ends_at, bits_at}
use Rattle.serial_groups.specs.Regions.{assess_at}
use Rattle.serial_groups.specs.Measuring.{passes, stays_inside}
use Rattle.serial_groups.specs.Groups.{LinkGroup}
use Rattle.serial_groups.specs.Flat.{least_flat_spans, is_flat}
use Rattle.serial_groups.specs.Tables.{link_row}
use Rattle.serial_plan.specs.Arrays.{is_on}
use Rattle.serial_plan.specs.Shape.{ends_in, chain_in, path_in, all_alike_in}

-- the group of some ranks and links
abbrev pub group_by : List ℕ → List ℕ → List ℕ → List ℕ → List ℕ → LinkGroup
group_by regions firsts seconds rs js = record { ranks = rs; links = map (link_row regions firsts seconds) js }

-- ends, width bits and full pairs of n boundaries
pub record BoundaryTables (dirs : List ℕ) (g : Grid) (l : List Item) (n : ℕ) (own bits lowers highers : List ℕ) : Type 0 where
  pub size : length l ≡ n
  pub ends : (i : ℕ) → i < n → ends_at l i ≡ span_in own i
  pub widths : (i : ℕ) → i < n → bits_at l i ≡ at bits i
  pub pairs : (i : ℕ) → i < n → full_pair (assess_at dirs g l i) ≡ region_pair (at lowers i) (at highers i)

-- which links pass
pub record Passed (limits : Limits) (dirs : List ℕ) (g : Grid) (l : List Item) (regions firsts seconds passing : List ℕ) (links : ℕ) : Type 0 where
  pub each : (k : ℕ) → k < links → is_on passing k ≡ passes limits dirs g l (link_row regions firsts seconds k)

-- which links have a flat region inside their envelopes
pub record FlatInside (limits : Limits) (dirs : List ℕ) (g : Grid) (l : List Item) (regions firsts seconds flat : List ℕ) (links : ℕ) : Type 0 where
  pub each : (k : ℕ) → k < links → is_on flat k ≡ stays_inside limits dirs g l (link_row regions firsts seconds k) && is_flat dirs g l (at regions k)

module _ (limits : Limits) (own lowers highers regions firsts seconds : List ℕ) where
  unfoldable pub serial_in : List ℕ → List ℕ → List ℕ → Bool
  unfolding every path_in chain_in ends_in squares span_in
  serial_in passing rs js =
      (every (is_on passing) js && path_in lowers highers regions firsts seconds limits.least_spans limits.most_spans rs js)
      && (le (chain_in firsts seconds own js) limits.chain && le
      (centre_distance (span_in own (get_or (ends_in firsts seconds rs js) 0 0)) (span_in own (get_or (ends_in firsts seconds rs js) 1 0))) limits.chain)

  unfoldable pub flat_in : List ℕ → List ℕ → Bool
  unfolding path_in all_alike_in
  flat_in rs js = path_in lowers highers regions firsts seconds least_flat_spans limits.most_spans rs js && all_alike_in limits own rs
