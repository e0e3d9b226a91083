-- What is left of a partition with room for some number of region pairs: which boundaries are bridges, and which are marked.
use Rattle.std.specs.Prelude.{◌≡◌, List, ℕ, ◌+◌, ◌≤◌, ◌<◌, length}
use Rattle.areas.specs.Words.{labelled}
use Rattle.position.specs.declared.Span.{Span}
use Rattle.graph.specs.Records.{Record}
use Rattle.grid.specs.Cells.{Grid}
use Rattle.areas.specs.Areas.{area_labels, area_count}
use Rattle.areas.specs.Assessments.{records}
use Rattle.serial_walk.specs.Marks.{bridge_marks}
use Rattle.marks_closing.specs.Marks.{choke_marks}

-- the region pairs that a small map is first parted with room for
abbrev pub few_pairs : ℕ
few_pairs = 64

-- the bridges among the boundaries, where the pairs are at most `most`
abbrev pub Bridged : ℕ → List ℕ → Grid → List Span → List ℕ → Type 0
Bridged most dirs g ss marks = length (records dirs g ss) ≤ most → marks ≡ bridge_marks (records dirs g ss) 256

-- the work has the labels ls, and pairs is the number of the region pairs rs, or one more than `most` where they are over it; where they are not, Told holds
pub record PartedWithin (most : ℕ) (ls : List ℕ) (rs : List Record) (Told : Type 0) (before work : List ℕ) (pairs : ℕ) : Type 0 where
  pub work-is : work ≡ labelled ls before
  pub over : most < length rs → pairs ≡ most + 1
  pub pairs-are : length rs ≤ most → pairs ≡ length rs
  pub told : length rs ≤ most → Told

-- a map parted by spans, with the marks of its boundaries
abbrev pub MarkedWithin : ℕ → List ℕ → Grid → List Span → List ℕ → List ℕ → List ℕ → ℕ → Type 0
MarkedWithin most dirs g ss marks before work pairs =
    PartedWithin most (area_labels dirs g ss) (records dirs g ss) (marks ≡ choke_marks (records dirs g ss) 256) before work pairs

-- a map parted by spans, with the number of its areas
abbrev pub AreasWithin : ℕ → List ℕ → Grid → List Span → List ℕ → List ℕ → ℕ → ℕ → Type 0
AreasWithin most dirs g ss before work areas pairs =
    PartedWithin most (area_labels dirs g ss) (records dirs g ss) (areas ≡ area_count dirs g ss) before work pairs
