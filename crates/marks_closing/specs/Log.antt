-- A forest with a log of its joins: for each the root that went under another, and the height that the other had.
use Rattle.std.specs.Prelude.{◌≡◌, cond, List, ◌∷◌, ℕ, zero, suc, ◌+◌, ◌-◌, ◌≤◌, ◌<◌, eqb, length, set}
use Rattle.lists.specs.Rows.{at}
use Rattle.graph.specs.Path.{Edge}
use Rattle.marks_closing.specs.Forest.{HeightTrees, RootedForest}

pub record ForestTables : Type 0 where
  pub parents : List ℕ
  pub heights : List ℕ
  pub joined : List ℕ
  pub earlier : List ℕ

abbrev pub forest_tables : List ℕ → List ℕ → List ℕ → List ℕ → ForestTables
forest_tables parents heights joined earlier = record { parents = parents; heights = heights; joined = joined; earlier = earlier }

-- the height of a root when another goes under it
abbrev pub raised_height : ℕ → ℕ → ℕ
raised_height low high = cond (eqb low high) (high + 1) high

-- the root low under the root high, as join n of the log
abbrev pub hung : ForestTables → ℕ → ℕ → ℕ → ForestTables
hung s n low high =
    forest_tables (set s.parents low high) (set s.heights high (raised_height (at s.heights low) (at s.heights high)))
    (set s.joined n low) (set s.earlier n (at s.heights high))

-- join k of the log taken back
abbrev pub taken_back : ForestTables → ℕ → ForestTables
taken_back s k =
    forest_tables (set s.parents (at s.joined k) (at s.joined k))
    (set s.heights (at s.parents (at s.joined k)) (at s.earlier k)) s.joined s.earlier

-- the d joins from n on taken back, last first
unfoldable pub undone : ForestTables → ℕ → ℕ → ForestTables
undone s n zero = s
undone s n (suc d) = undone (taken_back s (n + d)) n d

-- the joins from n up to m can be taken back
pub record Undoable (s : ForestTables) (n m : ℕ) : Type 0 where
  pub below : (i : ℕ) → i < length s.parents → at s.parents i < length s.parents
  pub sized : length s.heights ≡ length s.parents
  pub from : n ≤ m
  pub joined-room : m ≤ length s.joined
  pub earlier-room : m ≤ length s.earlier
  pub inside : (k : ℕ) → n ≤ k → k < m → at s.joined k < length s.parents

-- no height is over n, and there is room for d joins after the first n
pub record LogRoom (s : ForestTables) (n d : ℕ) : Type 0 where
  pub trees : HeightTrees s.parents s.heights
  pub low : (i : ℕ) → i < length s.parents → at s.heights i ≤ n
  pub joined-room : n + d ≤ length s.joined
  pub earlier-room : n + d ≤ length s.earlier
  pub few : n + d ≤ 4096

-- the log has the same first n joins
pub record SameLog (n : ℕ) (s t : ForestTables) : Type 0 where
  pub joined-size : length t.joined ≡ length s.joined
  pub earlier-size : length t.earlier ≡ length s.earlier
  pub joined_same : (k : ℕ) → k < n → at t.joined k ≡ at s.joined k
  pub earlier-same : (k : ℕ) → k < n → at t.earlier k ≡ at s.earlier k

-- the forest is what it was, and so is the log as far as n
pub record ForestRestored (n : ℕ) (s t : ForestTables) : Type 0 where
  pub parents : t.parents ≡ s.parents
  pub heights : t.heights ≡ s.heights
  pub log : SameLog n s t

-- at most d joins later the log has m: the forest is one of more edges, and taking the new joins back leads back to what was
pub record GrownForest (more : List Edge → List Edge) (d : ℕ) (s : ForestTables) (n : ℕ) (t : ForestTables) (m : ℕ) : Type 0 where
  pub from : n ≤ m
  pub upto : m ≤ n + d
  pub size : length t.parents ≡ length s.parents
  pub trees : HeightTrees t.parents t.heights
  pub low : (i : ℕ) → i < length t.parents → at t.heights i ≤ m
  pub log : SameLog n s t
  pub inside : (k : ℕ) → n ≤ k → k < m → at t.joined k < length t.parents
  pub parents-back : (undone t n (m - n)).parents ≡ s.parents
  pub heights-back : (undone t n (m - n)).heights ≡ s.heights
  pub forest : (es : List Edge) → RootedForest es s.parents → RootedForest (more es) t.parents

-- one edge more
abbrev pub joining : ℕ → ℕ → List Edge → List Edge
joining left right es = record { left = left; right = right } ∷ es

-- the edges of d records from `from` on more
unfoldable pub adding : List ℕ → List ℕ → ℕ → ℕ → List Edge → List Edge
adding lefts rights from zero es = es
adding lefts rights from (suc d) es = joining (at lefts (from + d)) (at rights (from + d)) (adding lefts rights from d es)
