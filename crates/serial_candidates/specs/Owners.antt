-- The records of three arrays, and how many of them each owner has.
use Rattle.std.specs.Prelude.{◌≡◌, Bool, ◌||◌, List, ℕ, ◌<◌, ◌≤◌, eqb, length, get_or}
use Rattle.lists.specs.Rows.{rows}
use Rattle.order.specs.Lists.{keep}
use Rattle.graph.specs.Records.{Record, record_in, no_record}

-- the region is one of the record's two
abbrev pub in_record : ℕ → Record → Bool
in_record r p = eqb r p.left || eqb r p.right

-- of the first k records, those of an owner
unfoldable pub owner_records : (ℕ → Record) → ℕ → ℕ → List Record
unfolding keep rows
owner_records f k i = keep (λ (r : Record). eqb r.owner i) (rows k f)

-- the arrays have room for the records, of which there are at most 4,096
pub record Stored (owners lefts rights : List ℕ) (records : ℕ) : Type 0 where
  pub few : records ≤ 4096
  pub in_owners : records ≤ length owners
  pub in-lefts : records ≤ length lefts
  pub in-rights : records ≤ length rights

-- each owner is one of the first n ranks
pub record OwnersBelow (owners : List ℕ) (records n : ℕ) : Type 0 where
  pub each : (k : ℕ) → k < records → get_or owners k 0 < n

-- how many of the records each rank has, and the regions of the first one
pub record Firsts (owners lefts rights : List ℕ) (records : ℕ) (counts lowers highers : List ℕ) : Type 0 where
  pub counts-length : length counts ≡ 256
  pub lowers-length : length lowers ≡ 256
  pub highers-length : length highers ≡ 256
  pub counts-are : (i : ℕ) → i < 256 → get_or counts i 0 ≡ length (owner_records (record_in owners lefts rights) records i)
  pub lower-is : (i : ℕ) → i < 256 → get_or lowers i 0 ≡ (get_or (owner_records (record_in owners lefts rights) records i) 0 no_record).left
  pub higher-is : (i : ℕ) → i < 256 → get_or highers i 0 ≡ (get_or (owner_records (record_in owners lefts rights) records i) 0 no_record).right
