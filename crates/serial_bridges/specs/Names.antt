-- Labels of regions under small numbers: a label's number is the first place where it stands, 2k at the left of record k and 2k + 1 at its right.
-- The numbers stand in a table of u32 words, one a label: 0 where it has none yet, and its number and 1 where it has one.
use Rattle.std.specs.Prelude.{◌≡◌, ◌⊎◌, List, ℕ, ◌+◌, ◌*◌, ◌-◌, ◌≤◌, ◌<◌, length}
use Rattle.lists.specs.Rows.{at}
use Rattle.label_table.specs.Table.{Table, OnlyOf}

-- there are at most 4,096 records, and their ends are labels from 1 to `regions`
pub record Labelled (K : ℕ) (lefts rights : List ℕ) (regions : ℕ) : Type 0 where
  pub few : K ≤ 4096
  pub lefts-are : K ≤ length lefts
  pub rights-are : K ≤ length rights
  pub left-from : (k : ℕ) → k < K → 0 < at lefts k
  pub left-to : (k : ℕ) → k < K → at lefts k ≤ regions
  pub right-from : (k : ℕ) → k < K → 0 < at rights k
  pub right-to : (k : ℕ) → k < K → at rights k ≤ regions

-- label x + 1 stands at one end of a record from k on
pub record LabelStands (K : ℕ) (lefts rights : List ℕ) (k x : ℕ) : Type 0 where
  pub place : ℕ
  pub from : k ≤ place
  pub inside : place < K
  pub end : (at lefts place ≡ x + 1) ⊎ (at rights place ≡ x + 1)

-- word v is that of label x + 1: it names a place where the label stands
pub record Named (K : ℕ) (lefts rights : List ℕ) (x v : ℕ) : Type 0 where
  pub place : ℕ
  pub inside : place < K
  pub is : ((at lefts place ≡ x + 1) × (v ≡ 2 * place + 1)) ⊎ ((at rights place ≡ x + 1) × (v ≡ 2 * place + 2))

-- the ends of the first k records have their numbers
pub record EndNumbers (K : ℕ) (lefts rights : List ℕ) (regions base : ℕ) (start work small_lefts small_rights : List ℕ) (k : ℕ) : Type 0 where
  pub words : ℕ → ℕ
  pub table : Table start regions base words work
  pub named : (x : ℕ) → 0 < words x → Named K lefts rights x (words x)
  pub lefts-are : K ≤ length small_lefts
  pub rights-are : K ≤ length small_rights
  pub left : (i : ℕ) → i < k → words (at lefts i - 1) ≡ at small_lefts i + 1
  pub right : (i : ℕ) → i < k → words (at rights i - 1) ≡ at small_rights i + 1

-- the words of the labels before record k are 0 again
abbrev pub Forgotten : ℕ → List ℕ → List ℕ → ℕ → ℕ → List ℕ → List ℕ → ℕ → Type 0
Forgotten K lefts rights regions base start work k = OnlyOf (LabelStands K lefts rights k) start regions base work
