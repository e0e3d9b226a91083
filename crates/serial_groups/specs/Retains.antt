-- Which member a group keeps, whatever the widths are.
use mathlib.Core.List.{List, Memᴰ}
use Rattle.std.specs.Prelude.{ℕ, ◌≤◌}
use Rattle.serial_links.specs.Limits.{Limits}
use Rattle.context.specs.Listing.{Item}
use Rattle.serial_groups.specs.Representative.{eligible, IsRetained}

pub record Retains (limits : Limits) (l : List Item) (is : List ℕ) (i : ℕ) : Type 0 where
  pub mine : Memᴰ i is
  -- where a member is eligible it is the one of 000's `representative`
  pub named : (j : ℕ) → Memᴰ j (eligible limits l is) → IsRetained limits l is i
  -- where none is, which widths of a job rule out, it is the earliest
  pub earliest : ((j : ℕ) → Memᴰ j (eligible limits l is) → ⊥) → (j : ℕ) → Memᴰ j is → i ≤ j
