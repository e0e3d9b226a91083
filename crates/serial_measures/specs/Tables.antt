-- Labels of cells in u32 words, and behind them a table of words, one a label: 0, or the number of the link with that region and 1.
use Rattle.std.specs.Prelude.{◌≡◌, cond, List, ℕ, ◌+◌, ◌*◌, ◌-◌, ◌≤◌, ◌<◌, eqb, length}
use Rattle.lists.specs.Rows.{at}
use Rattle.wire.specs.Bytes.{u32_at}
use Rattle.areas.specs.Words.{word}
use Rattle.label_table.specs.Table.{Table, OnlyOf}

-- the regions of the links are different labels from 1 to n
pub record LinkRegions (regions : List ℕ) (links n : ℕ) : Type 0 where
  pub few : links ≤ 256
  pub from : (k : ℕ) → k < links → 0 < at regions k
  pub to : (k : ℕ) → k < links → at regions k ≤ n
  pub apart : (j k : ℕ) → j < links → k < links → at regions j ≡ at regions k → j ≡ k

-- n labels, each at most n, and n words of 0
pub record Labels (work : List ℕ) (n : ℕ) : Type 0 where
  pub room : 8 * n ≤ length work
  pub most : (i : ℕ) → i < n → word work i ≤ n
  pub clear : (x : ℕ) → x < n → u32_at work (4 * n + 4 * x) ≡ 0

-- the table of a start has the numbers of the first k links
pub record Written (start work : List ℕ) (n : ℕ) (regions : List ℕ) (k : ℕ) : Type 0 where
  pub words : ℕ → ℕ
  pub table : Table start n (4 * n) words work
  pub own : (j : ℕ) → j < k → words (at regions j - 1) ≡ j + 1
  pub named : (x : ℕ) → 0 < words x → (words x ≤ k) × (at regions (words x - 1) ≡ x + 1)

-- a link from k on has the label x + 1
pub record Later (regions : List ℕ) (links k x : ℕ) : Type 0 where
  pub link : ℕ
  pub from : k ≤ link
  pub inside : link < links
  pub is : at regions link ≡ x + 1

-- the words of the links before k are 0 again
abbrev pub Cleared : List ℕ → List ℕ → ℕ → List ℕ → ℕ → ℕ → Type 0
Cleared start work n regions links k = OnlyOf (Later regions links k) start n (4 * n) work

-- what the table says of a label
abbrev pub table_number : List ℕ → ℕ → ℕ → ℕ
table_number work n r = cond (eqb r 0) 0 (u32_at work (4 * n + 4 * (r - 1)))

-- it has the number of each link's region, and of no other label
pub record RegionNumbers (work : List ℕ) (n : ℕ) (regions : List ℕ) (links : ℕ) : Type 0 where
  pub few : links ≤ 256
  pub room : 8 * n ≤ length work
  pub most : (i : ℕ) → i < n → word work i ≤ n
  pub within : (r : ℕ) → r ≤ n → table_number work n r ≤ links
  pub named : (r : ℕ) → r ≤ n → 0 < table_number work n r → at regions (table_number work n r - 1) ≡ r
  pub own : (k : ℕ) → k < links → table_number work n (at regions k) ≡ k + 1
