-- The labels of cells in bytes: a u32 each.
use mathlib.Core.List.{List, ◌++◌, flat_map}
use Rattle.std.specs.Prelude.{ℕ, ◌*◌, length, drop, replicate}
use Rattle.wire.specs.Bytes.{u32_at, u32_bytes}
use Rattle.lists.specs.Rows.{rows}

-- the word of cell i
abbrev pub word : List ℕ → ℕ → ℕ
word w i = u32_at w (4 * i)

-- the first n words
unfoldable pub labels_in : List ℕ → ℕ → List ℕ
labels_in w n = rows n (word w)

-- "a u32 label per cell first, then zeros to ten times the cells; later bytes are unchanged"
unfoldable pub labelled : List ℕ → List ℕ → List ℕ
unfolding flat_map
labelled labels work = flat_map u32_bytes labels ++ (replicate (6 * length labels) 0 ++ drop (10 * length labels) work)
