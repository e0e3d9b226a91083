-- The groups that the merging rules accept, by ranks: the places of the boundaries in the listing, from 0.
use Rattle.std.specs.Prelude.{Bool, false, not, ◌||◌, ℕ, ◌<◌}
use mathlib.Core.List.{List, [], ◌∷◌, ◌++◌, Memᴰ}
use Rattle.order.specs.Lists.{keep, up_from, has}
use Rattle.order.specs.Pairs.{Pairs}

pub record Group : Type 0 where
  pub ranks : List ℕ
  pub retained : ℕ

-- "Serial groups … come first, then flat groups": a list of each.
pub record Groups : Type 0 where
  pub serial : List Group
  pub flat : List Group

abbrev pub no_groups : Groups
no_groups = record { serial = []; flat = [] }

unfoldable pub all_groups : Groups → List Group
all_groups gs = gs.serial ++ gs.flat

-- The rank is in one of the groups.
unfoldable pub in_any : List Group → ℕ → Bool
in_any [] i = false
in_any (g ∷ gs) i = has i g.ranks || in_any gs i

-- Of n ranks, those in none of the groups.
unfoldable pub unmerged : List Group → ℕ → List ℕ
unmerged gs n = keep (λ i. not (in_any gs i)) (up_from 0 n)

-- A group among n boundaries: its ranks ascend, and the retained one is of them.
pub record Good (n : ℕ) (g : Group) : Type 0 where
  pub ascending : Pairs (λ i j. i < j) g.ranks
  pub below : (i : ℕ) → Memᴰ i g.ranks → i < n
  pub mine : Memᴰ g.retained g.ranks

abbrev pub Disjoint : Group → Group → Type 0
Disjoint g h = (i : ℕ) → Memᴰ i g.ranks → Memᴰ i h.ranks → ⊥

-- "no boundary is in two accepted groups"
pub record WellGrouped (n : ℕ) (gs : List Group) : Type 0 where
  pub good : (g : Group) → Memᴰ g gs → Good n g
  pub apart : Pairs Disjoint gs
