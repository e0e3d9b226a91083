-- Ranges of records and of their owners.
use Rattle.std.specs.Prelude.{◌≡◌, Bool, false, not, ◌&&◌, ◌||◌, List, ℕ, zero, suc, ◌+◌, ◌-◌, ◌≤◌, ◌<◌, leb, ltb, length}
use Rattle.lists.specs.Rows.{at}
use Rattle.graph.specs.Path.{Edge}
use Rattle.graph.specs.Parts.{same_part}
use Rattle.graph.specs.Records.{Record, records_in, edges, without}
use Rattle.graph.specs.Slices.{Graph}
use Rattle.marks_closing.specs.Forest.{RootedForest}
use Rattle.marks_closing.specs.Log.{ForestTables, LogRoom, ForestRestored}
use Rattle.marks_closing.specs.Marks.{MarkedRange}

-- the owners rise from record to record, as far as K
abbrev pub RisingOwners : ℕ → List ℕ → Type 0
RisingOwners K owners = (i j : ℕ) → i ≤ j → j < K → at owners i ≤ at owners j

-- the owners before r are below b, those from r on are not
pub record OwnersSplit (owners : List ℕ) (from to b r : ℕ) : Type 0 where
  pub low : from ≤ r
  pub high : r ≤ to
  pub below : (k : ℕ) → from ≤ k → k < r → at owners k < b
  pub above : (k : ℕ) → r ≤ k → k < to → b ≤ at owners k

-- the two regions of one of the d records from `from` on are in two parts
unfoldable pub some_parted : List Edge → List ℕ → List ℕ → ℕ → ℕ → Bool
some_parted es lefts rights from zero = false
some_parted es lefts rights from (suc d) = some_parted es lefts rights from d || not (same_part es (at lefts (from + d)) (at rights (from + d)))

-- the record stands at a place from `from` up to `to`
abbrev pub stands_within : ℕ → ℕ → ℕ → Record → Bool
stands_within from to k r = leb from k && ltb k to

-- the edges of the first K records but for those
abbrev pub other_edges : List ℕ → List ℕ → List ℕ → ℕ → ℕ → ℕ → List Edge
other_edges owners lefts rights K from to = edges (without (stands_within from to) (records_in owners lefts rights K))

-- the records from `from` up to `to` are those of the boundaries lo, …, hi - 1
pub record OwnerRange (owners : List ℕ) (K from to lo hi : ℕ) : Type 0 where
  pub ordered : from ≤ to
  pub upto : to ≤ K
  pub some : lo < hi
  pub top : hi ≤ 256
  pub from-lo : (k : ℕ) → from ≤ k → k < to → lo ≤ at owners k
  pub to-hi : (k : ℕ) → from ≤ k → k < to → at owners k < hi
  pub first : (k : ℕ) → k < K → lo ≤ at owners k → at owners k < hi → from ≤ k
  pub last : (k : ℕ) → k < K → lo ≤ at owners k → at owners k < hi → k < to

-- the records that range over all owners
pub record ListedRecords (owners lefts rights : List ℕ) (K R : ℕ) : Type 0 where
  pub owners-are : K ≤ length owners
  pub rising : RisingOwners K owners
  pub graph : Graph K R lefts rights

-- the forest has all records but those of the range, and the marks of its boundaries are 0
pub record OpenRange (owners lefts rights : List ℕ) (K from to lo hi : ℕ) (s : ForestTables) (n : ℕ) (marks : List ℕ) : Type 0 where
  pub listed : ListedRecords owners lefts rights K (length s.parents)
  pub range : OwnerRange owners K from to lo hi
  pub room : LogRoom s n (to - from)
  pub forest : RootedForest (other_edges owners lefts rights K from to) s.parents
  pub sized : length marks ≡ 256
  pub unmarked : (b : ℕ) → lo ≤ b → b < hi → at marks b ≡ 0

-- its boundaries are marked, and the forest is what it was
pub record ClosedRange (owners lefts rights : List ℕ) (K lo hi : ℕ) (s t : ForestTables) (n : ℕ) (was is : List ℕ) : Type 0 where
  pub restored : ForestRestored n s t
  pub marked : MarkedRange (records_in owners lefts rights K) lo hi was is

-- of R vertices the first n are roots of height 0
pub record ClearedForest (R n : ℕ) (parents heights : List ℕ) : Type 0 where
  pub parents-are : length parents ≡ R
  pub heights-are : length heights ≡ R
  pub own : (i : ℕ) → i < n → at parents i ≡ i
  pub flat : (i : ℕ) → i < n → at heights i ≡ 0

-- arrays for these records: a parent and a height for each region, and a log as long as the list
pub record LentTables (K : ℕ) (s : ForestTables) : Type 0 where
  pub heights-are : length s.heights ≡ length s.parents
  pub joined-are : K ≤ length s.joined
  pub earlier-are : K ≤ length s.earlier
