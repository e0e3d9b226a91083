-- Directions to the cells about a cell, numbered as `edge_bit` of 002 does: (dy + 1) · 3 + (dx + 1).
use Rattle.std.specs.Prelude.{◌≡◌, Bool, not, ◌&&◌, ℕ, ◌-◌, ◌/◌, ◌%◌, ◌^◌, ◌<◌, eqb}
use mathlib.Core.List.{List, [], ◌∷◌, Memᴰ}
use Rattle.order.specs.Lists.{keep, up_from}

-- a direction is a number from 0 to 8, and not 4, which leads nowhere
abbrev pub IsDirection : ℕ → Type 0
IsDirection d = (d < 9) × (d ≡ 4 → ⊥)

-- columns to the right, and rows down, each with 1 added
abbrev pub right : ℕ → ℕ
right d = d % 3

abbrev pub down : ℕ → ℕ
down d = d / 3

abbrev pub reverse : ℕ → ℕ
reverse d = 8 - d

-- it leads to another column and to another row
unfoldable pub diagonal : ℕ → Bool
diagonal d = not (eqb (right d) 1) && not (eqb (down d) 1)

-- sets of directions: the eight about a cell, and the four that are not diagonal
abbrev pub eight : List ℕ
eight = 0 ∷ 1 ∷ 2 ∷ 3 ∷ 5 ∷ 6 ∷ 7 ∷ 8 ∷ []

abbrev pub four : List ℕ
four = 1 ∷ 3 ∷ 5 ∷ 7 ∷ []

-- a set of directions as a number: d is in it exactly if bit d is set
unfoldable pub directions_of : ℕ → List ℕ
unfolding keep
directions_of set = keep (λ d. eqb (set / 2 ^ d % 2) 1) (up_from 0 9)

-- each member is a direction, and its reverse is a member
pub record ClosedUnderReversal (dirs : List ℕ) : Type 0 where
  pub each : (d : ℕ) → Memᴰ d dirs → IsDirection d
  pub back : (d : ℕ) → Memᴰ d dirs → Memᴰ (reverse d) dirs
