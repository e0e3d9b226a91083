-- A table of u32 words in a byte list, one a label: 0 where the label has none.
use Rattle.std.specs.Prelude.{◌≡◌, List, ℕ, ◌+◌, ◌*◌, ◌≤◌, ◌<◌, length, get_or}
use Rattle.wire.specs.Bytes.{u32_at}

-- the table has the words f 0, f 1, …, and beside it all is as in `start`
pub record Table (start : List ℕ) (regions base : ℕ) (f : ℕ → ℕ) (work : List ℕ) : Type 0 where
  pub as_long : length work ≡ length start
  pub word : (x : ℕ) → x < regions → u32_at work (base + 4 * x) ≡ f x
  pub before : (i : ℕ) → i < base → get_or work i 0 ≡ get_or start i 0
  pub behind : (i : ℕ) → base + 4 * regions ≤ i → get_or work i 0 ≡ get_or start i 0

-- only labels x + 1 with P x have a word
pub record OnlyOf (P : ℕ → Type 0) (start : List ℕ) (regions base : ℕ) (work : List ℕ) : Type 0 where
  pub words : ℕ → ℕ
  pub table : Table start regions base words work
  pub left_over : (x : ℕ) → 0 < words x → P x
