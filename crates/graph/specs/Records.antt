-- Records: each joins two regions for a boundary, its owner. What is left when some are taken away.
use Rattle.std.specs.Prelude.{◌≡◌, Bool, false, cond, List, [], ◌∷◌, map, ℕ, suc, ◌<◌, eqb, length, get_or}
use Rattle.lists.specs.Rows.{rows}
use Rattle.graph.specs.Path.{Edge}

-- one region pair of one boundary
pub record Record : Type 0 where
  pub owner : ℕ
  pub left : ℕ
  pub right : ℕ

abbrev pub no_record : Record
no_record = record { owner = 0; left = 0; right = 0 }

-- record k of three arrays
abbrev pub record_in : List ℕ → List ℕ → List ℕ → ℕ → Record
record_in owners lefts rights k = record { owner = get_or owners k 0; left = get_or lefts k 0; right = get_or rights k 0 }

-- the first n of them
unfoldable pub records_in : List ℕ → List ℕ → List ℕ → ℕ → List Record
unfolding rows
records_in owners lefts rights n = rows n (record_in owners lefts rights)

-- the record record_at a place
abbrev pub record_at : List Record → ℕ → Record
record_at rs k = get_or rs k no_record

abbrev pub record_edge : Record → Edge
record_edge r = record { left = r.left; right = r.right }

-- the graph of regions that the records make
unfoldable pub edges : List Record → List Edge
edges rs = map record_edge rs

-- the records but for those that `gone` names by place and record
unfoldable pub without : (ℕ → Record → Bool) → List Record → List Record
without gone [] = []
without gone (r ∷ rs) = let rest = without (λ k. gone (suc k)) rs in cond (gone 0 r) rest (r ∷ rest)

-- the meaning of it: the record stands record_at a place that `gone` does not name
pub record Remains (gone : ℕ → Record → Bool) (rs : List Record) (r : Record) : Type 0 where
  pub place : ℕ
  pub inside : place < length rs
  pub spared : gone place (record_at rs place) ≡ false
  pub stands : record_at rs place ≡ r

-- the record record_at place k alone
abbrev pub only : ℕ → ℕ → Record → Bool
only k i r = eqb i k

-- every record of boundary b
abbrev pub of_owner : ℕ → ℕ → Record → Bool
of_owner b i r = eqb r.owner b
