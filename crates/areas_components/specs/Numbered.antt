-- The labels of cells in bytes.
use Rattle.std.specs.Prelude.{◌≡◌, Bool, cond, ℕ, ◌+◌, ◌*◌, ◌%◌, max, eqb, get_or}
use mathlib.Core.List.{List, flat_map}
use Rattle.wire.specs.Bytes.{splice, u32_bytes}
use Rattle.areas.specs.Words.{word}
use Rattle.graph.specs.Path.{Edge}
use Rattle.graph.specs.Labels.{labels, label_count}

-- the byte of a cell says that it is walkable
abbrev pub walks : List ℕ → ℕ → Bool
walks cells i = eqb (get_or cells i 0 % 2) 1

-- the label of cell i, where the cells before it have theirs, the others their parents, and `count` labels are in use
abbrev pub next_label : Bool → (ℕ → ℕ) → ℕ → ℕ → ℕ
next_label on p i count = cond on (cond (eqb (p i) i) (count + 1) (p (p i))) 0

-- w is s with that label at cell i, and `total` the number of labels in use with it
pub record NextNumbered (on : Bool) (i count : ℕ) (s w : List ℕ) (total : ℕ) : Type 0 where
  pub same : w ≡ splice s (4 * i) (u32_bytes (next_label on (word s) i count))
  pub most : total ≡ max count (next_label on (word s) i count)

-- w is s with the labels of the first n vertices in its first words, and there are `count` labels
pub record ComponentLabels (n : ℕ) (on : ℕ → Bool) (es : List Edge) (s w : List ℕ) (count : ℕ) : Type 0 where
  pub same : w ≡ splice s 0 (flat_map u32_bytes (labels n on es))
  pub total : count ≡ label_count n on es
