-- What closing answers: a mark for each boundary, by the definition of a choke.
use Rattle.std.specs.Prelude.{◌≡◌, ◌⊎◌, Bool, cond, List, ℕ, ◌≤◌, ◌<◌, length}
use Rattle.lists.specs.Rows.{at, rows}
use Rattle.graph.specs.Records.{Record}
use Rattle.graph.specs.Bridges.{mark_of}

abbrev pub bit : Bool → ℕ
bit t = cond t 1 0

-- for each of n boundaries 1 if closing it parts the two regions of one of its records, else 0
unfoldable pub choke_marks : List Record → ℕ → List ℕ
choke_marks rs n = rows n (λ b. bit (mark_of rs b))

-- the boundaries lo, …, hi - 1 have their marks, and the others have what they had
pub record MarkedRange (rs : List Record) (lo hi : ℕ) (was is : List ℕ) : Type 0 where
  pub size : length is ≡ length was
  pub inside : (b : ℕ) → lo ≤ b → b < hi → at is b ≡ bit (mark_of rs b)
  pub outside : (b : ℕ) → (b < lo) ⊎ (hi ≤ b) → at is b ≡ at was b
