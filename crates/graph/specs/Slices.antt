-- Records in three arrays, under small numbers for their regions. K is the number of records, R the number of regions.
use Rattle.std.specs.Prelude.{List, ℕ, ◌≤◌, ◌<◌, length}
use Rattle.lists.specs.Rows.{at}

-- there are at most 4,096 records and 8,192 regions, and the records' ends are regions
pub record Graph (K R : ℕ) (lefts rights : List ℕ) : Type 0 where
  pub few : K ≤ 4096
  pub near : R ≤ 8192
  pub lefts-are : K ≤ length lefts
  pub rights-are : K ≤ length rights
  pub left_in : (k : ℕ) → k < K → at lefts k < R
  pub right-in : (k : ℕ) → k < K → at rights k < R

-- the records' owners are boundaries below 256
abbrev pub Owners : ℕ → List ℕ → Type 0
Owners K owners = (k : ℕ) → k < K → at owners k < 256
