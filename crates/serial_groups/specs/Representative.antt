-- Which member of a group is kept: 000's `representative`. Of the members with width at most the least and the tolerance,
-- the one with the least sum of distances to all members; of such, the earliest.
use Rattle.std.specs.Prelude.{◌≡◌, Bool, true, ℕ, ◌≤◌, Float}
use mathlib.Core.List.{List, map, Memᴰ}
use Rattle.std.specs.Float.{binary64}
use Rattle.std.specs.Float.Ieee.{le, of_bits}
use Rattle.std.proofs.Math.ListN.{get_or}
use Rattle.order.specs.Lists.{keep}
use Rattle.order.specs.Sorting.{sort}
use Rattle.length.specs.Floats.{◌⊕◌}
use Rattle.length.specs.Total.{total_le}
use Rattle.serial_links.specs.Limits.{Limits}
use Rattle.serial_links.specs.Geometry.{squares}
use Rattle.serial_sums.specs.Sums.{added_to, sum_of, no_later}
use Rattle.serial_links.specs.Sums.{distance_sum}
use Rattle.context.specs.Listing.{Item}
use Rattle.serial_groups.specs.Listing.{ends_at, bits_at}

abbrev pub width_at : List Item → ℕ → Float
width_at l i = of_bits binary64 (bits_at l i)

-- the least width of some ranks, by total_order
unfoldable pub least_width : List Item → List ℕ → Float
unfolding sort total_le
least_width l is = of_bits binary64 (get_or (sort total_le (map (bits_at l) is)) 0 0)

-- the sum of a rank's distances to the ranks, in their order
unfoldable pub distance_to : List Item → List ℕ → ℕ → Float
unfolding distance_sum sum_of added_to squares
distance_to l is i = distance_sum (ends_at l i) (map (ends_at l) is)

-- by these sums, i comes no later than j
unfoldable pub nearer : List Item → List ℕ → ℕ → ℕ → Bool
unfolding distance_to total_le
nearer l is i j = no_later (distance_to l is i) (distance_to l is j)

module _ (limits : Limits) (l : List Item) where
  unfoldable pub eligible : List ℕ → List ℕ
  unfolding keep least_width
  eligible is = keep (λ i. le (width_at l i) (least_width l is ⊕ limits.width)) is

  -- of ranks in ascending order. (If none were eligible it would be the first; with the widths of a job one always is.)
  unfoldable pub retained : List ℕ → ℕ
  unfolding eligible nearer sort
  retained is = get_or (sort (nearer l is) (eligible is)) 0 (get_or is 0 0)

  -- the meaning: it is eligible, has the least sum of those that are, and is the earliest with that sum
  pub record IsRetained (is : List ℕ) (i : ℕ) : Type 0 where
    pub chosen : Memᴰ i (eligible is)
    pub least : (j : ℕ) → Memᴰ j (eligible is) → nearer l is i j ≡ true
    pub earliest : (j : ℕ) → Memᴰ j (eligible is) → nearer l is j i ≡ true → i ≤ j
