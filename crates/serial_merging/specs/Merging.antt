-- Lists of merges, each merge on the boundaries that the last one left.
use Rattle.std.specs.Prelude.{◌≡◌, Bool, true, false, not, ◌||◌, ℕ}
use mathlib.Core.List.{List, [], ◌∷◌, ◌++◌, map, Memᴰ, Permᴰ}
use Rattle.order.specs.Orders.{same}
use Rattle.order.specs.Keys.{by_key}
use Rattle.order.specs.Lists.{keep}
use Rattle.format.specs.Values.{Boundary}
use Rattle.format.specs.Encode.{encode_answer}
use Rattle.context.specs.Listing.{ends_key}
use Rattle.serial_merging.specs.Copies.{canon, copies_of}
use Rattle.serial_merging.specs.Consolidation.{consolidate}
use Rattle.serial_merging.specs.Groups.{Group, Groups}
use Rattle.serial_merging.specs.Kept.{copy_at, members_of}

-- Both have the same ends, in either order.
abbrev pub same_ends : Boundary → Boundary → Bool
same_ends b c = same (by_key ends_key) b c

-- The boundary has the ends of one of the ranks.
unfoldable pub among : List Boundary → List ℕ → Boundary → Bool
among copies [] b = false
among copies (i ∷ is) b = same_ends b (copy_at copies i) || among copies is b

-- No two boundaries have the same ends, so the ends tell which of those that the last merge left are the group's.
abbrev pub is_member : List Boundary → Group → Boundary → Bool
is_member copies g b = among copies g.ranks b

unfoldable pub taken : List Boundary → Group → List Boundary → List Boundary
taken copies g state = keep (is_member copies g) state

unfoldable pub left : List Boundary → Group → List Boundary → List Boundary
left copies g state = keep (λ b. not (is_member copies g b)) state

-- "Each merge takes the boundaries that the last one left, which nothing else changes in between, and puts one consolidated boundary in its group's stead",
-- "worked out from canonical copies": wherever it is put.
pub record MergeStep (copies : List Boundary) (g : Group) (before after : List Boundary) : Type 0 where
  pub retained : Boundary
  pub there : Memᴰ retained (taken copies g before)
  pub named : same_ends retained (copy_at copies g.retained) ≡ true
  pub placed : Permᴰ after (consolidate (canon retained) (map canon (taken copies g before)) ∷ left copies g before)

pub data Merges (copies : List Boundary) : List Boundary → List Group → List Boundary → Type 0 where
  done : {s : List Boundary} → Merges copies s [] s
  merge : {s t u : List Boundary} {g : Group} {gs : List Group} → MergeStep copies g s t → Merges copies t gs u → Merges copies s (g ∷ gs) u

-- "A list of merges … names each group that these rules accept just once, serial ones before flat ones, otherwise in any order; without such groups
-- it is empty."
pub record MergeList (gs : Groups) (ms : List Group) : Type 0 where
  pub first : List Group
  pub second : List Group
  pub whole : ms ≡ first ++ second
  pub serials : Permᴰ first gs.serial
  pub flats : Permᴰ second gs.flat

-- "After the last, what is left is ordered and written as an answer, each boundary as its canonical copy."
abbrev pub finish : List Boundary → List ℕ
finish state = encode_answer (copies_of state)

-- P holds at the start and after every merge.
unfoldable pub Throughout : (List Boundary → Type 0) → {copies before after : List Boundary} {ms : List Group} → Merges copies before ms after → Type 0
Throughout P (done {s = s}) = P s
Throughout P (merge {s = s} step more) = P s × Throughout P more

-- Every merge takes its group's members, whole.
unfoldable pub WholeGroups : {copies before after : List Boundary} {ms : List Group} → Merges copies before ms after → Type 0
WholeGroups done = Unit {0}
WholeGroups {copies = copies} (merge {s = s} {g = g} step more) = Permᴰ (map canon (taken copies g s)) (members_of copies g) × WholeGroups more
