-- What marking asks of the records of a partition, and of arrays that it is lent.
use Rattle.std.specs.Prelude.{◌≡◌, List, ℕ, ◌+◌, ◌*◌, ◌≤◌, ◌<◌, length}
use Rattle.lists.specs.Rows.{at}
use Rattle.wire.specs.Bytes.{u32_at}
use Rattle.graph.specs.Slices.{Owners}
use Rattle.serial_bridges.specs.Names.{Labelled}
use Rattle.marks_closing.specs.Log.{ForestTables}
use Rattle.marks_closing.specs.Ranges.{RisingOwners, LentTables}

-- K records in the order of their owners, which are boundaries below 256; labels of regions from 1 to `regions`; and a word in work for each label, all 0
pub record OwnedRecords (K : ℕ) (owners lefts rights : List ℕ) (regions base : ℕ) (work : List ℕ) : Type 0 where
  pub marked : Owners K owners
  pub owners-are : K ≤ length owners
  pub rising : RisingOwners K owners
  pub labelled : Labelled K lefts rights regions
  pub room : base + 4 * regions ≤ length work
  pub zero : (x : ℕ) → x < regions → u32_at work (base + 4 * x) ≡ 0

-- no two of the first K records have one owner
abbrev pub SingleOwners : ℕ → List ℕ → Type 0
SingleOwners K owners = (i j : ℕ) → i < j → j < K → at owners i < at owners j

-- arrays for K records under small numbers, and for a forest of their regions
pub record SpareArrays (K : ℕ) (small_lefts small_rights : List ℕ) (s : ForestTables) : Type 0 where
  pub enough : 2 * K ≤ length s.parents
  pub near : length s.parents ≤ 8192
  pub small-lefts-are : K ≤ length small_lefts
  pub small-rights-are : K ≤ length small_rights
  pub lent : LentTables K s
