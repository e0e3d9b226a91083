-- Which boundaries are bridges: removing one of its records alone leaves that record's two regions unconnected. Which are marked as chokes: with all
-- records of the boundary taken away, the two regions of at least one of them are unconnected.
use Rattle.std.specs.Prelude.{◌≡◌, Bool, false, not, ◌&&◌, ◌||◌, List, [], ◌∷◌, ℕ, suc, ◌<◌, length}
use Rattle.graph.specs.Path.{Path}
use Rattle.graph.specs.Parts.{same_part}
use Rattle.graph.specs.Records.{Record, record_at, edges, without, only, of_owner}

-- the meaning: some record of the boundary has two regions that no path over the other records joins
pub record Bridge (rs : List Record) (b : ℕ) : Type 0 where
  pub place : ℕ
  pub inside : place < length rs
  pub owned : (record_at rs place).owner ≡ b
  pub parted : Path (edges (without (only place) rs)) (record_at rs place).left (record_at rs place).right → ⊥

-- with what `gone` names taken away, the regions of r are unconnected
unfoldable pub is_parted : (ℕ → Record → Bool) → List Record → Record → Bool
unfolding same_part edges without
is_parted gone rs r = not (same_part (edges (without gone rs)) r.left r.right)

-- some record passes the test, by place and record
unfoldable pub some_record : (ℕ → Record → Bool) → List Record → Bool
some_record t [] = false
some_record t (r ∷ rs) = t 0 r || some_record (λ k. t (suc k)) rs

-- some record of the boundary, taken away alone, parts its two regions
unfoldable pub is_bridge : List Record → ℕ → Bool
unfolding is_parted some_record
is_bridge rs b = some_record (λ k r. of_owner b k r && is_parted (only k) rs r) rs

-- the meaning of a mark: some record of the boundary has two regions that no path over the records of the others joins
pub record Closed (rs : List Record) (b : ℕ) : Type 0 where
  pub place : ℕ
  pub inside : place < length rs
  pub owned : (record_at rs place).owner ≡ b
  pub parted : Path (edges (without (of_owner b) rs)) (record_at rs place).left (record_at rs place).right → ⊥

-- Request 5: "A choke mark is from now on 1 exactly if, with all records of that boundary taken away, the two regions of at least one of them are
-- unconnected."
unfoldable pub mark_of : List Record → ℕ → Bool
unfolding is_parted some_record
mark_of rs b = some_record (λ k r. of_owner b k r && is_parted (of_owner b) rs r) rs
