-- What a map and spans must be to be partitioned, and what the partition leaves in lent bytes and arrays.
use Rattle.std.specs.Prelude.{◌≡◌, ℕ, ◌+◌, ◌*◌, ◌≤◌, ◌<◌, length, get_or, take, drop}
use mathlib.Core.List.{List, flat_map, Memᴰ}
use Rattle.areas.specs.Words.{labelled}
use Rattle.wire.specs.Bytes.{u32_bytes}
use Rattle.position.specs.declared.Span.{Span}
use Rattle.graph.specs.Records.{records_in}
use Rattle.grid.specs.Cells.{Grid, size}
use Rattle.grid.specs.Directions.{IsDirection, directions_of}
use Rattle.areas.specs.Areas.{area_labels, area_count, label_at}
use Rattle.areas.specs.Assessments.{assess, records}
use Rattle.areas.specs.Spans.{Sides, SpansFit, span_in, spans_in}
use Rattle.areas_partition.specs.declared.Partition.{Partition}

-- a map of sides that can be analysed, a set of directions, spans on the map, and ten bytes a cell
pub record Partitionable (width height : ℕ) (cells : List ℕ) (directions : ℕ) (ends : List ℕ) (count : ℕ) (work : List ℕ) : Type 0 where
  pub sides : Sides width height
  pub whole : length cells ≡ width * height
  pub each : (d : ℕ) → Memᴰ d (directions_of directions) → IsDirection d
  pub spans : SpansFit width height ends count
  pub few : count ≤ 256
  pub room : 10 * length cells ≤ length work

-- the labels stand in the first bytes, four a cell, and those from ten a cell on are as they were; r is the number of areas
pub record AreasIn (dirs : List ℕ) (g : Grid) (ss : List Span) (before work : List ℕ) (r : ℕ) : Type 0 where
  pub long : length work ≡ length before
  pub first : take (4 * size g) work ≡ flat_map u32_bytes (area_labels dirs g ss)
  pub rest : drop (10 * size g) work ≡ drop (10 * size g) before
  pub total : r ≡ area_count dirs g ss

-- two different labels in use, the lower one first
pub record RegionsInUse (n left right : ℕ) : Type 0 where
  pub some : 0 < left
  pub apart : left < right
  pub most : right ≤ n

-- the areas that the first count spans make, their number, and the region pairs and counts of each span, in arrays of most pairs; one more stands for over most
pub record Partitioned (most : ℕ) (dirs : List ℕ) (g : Grid) (ends : List ℕ) (count : ℕ) (before work removed separated owners lefts rights : List ℕ)
    (p : Partition) : Type 0 where
  pub work-is : work ≡ labelled (area_labels dirs g (spans_in ends count)) before
  pub areas-are : p.areas ≡ area_count dirs g (spans_in ends count)
  pub areas-few : area_count dirs g (spans_in ends count) ≤ size g
  pub labels-few : (i : ℕ) → i < size g → label_at (area_labels dirs g (spans_in ends count)) i ≤ size g
  pub over : most < length (records dirs g (spans_in ends count)) → p.pairs ≡ most + 1
  pub pairs-are : length (records dirs g (spans_in ends count)) ≤ most → p.pairs ≡ length (records dirs g (spans_in ends count))
  pub records-are : length (records dirs g (spans_in ends count)) ≤ most → records_in owners lefts rights p.pairs ≡ records dirs g (spans_in ends count)
  pub removed-are : length (records dirs g (spans_in ends count)) ≤ most → (i : ℕ) → i < count →
      get_or removed i 0 ≡ (assess dirs g (spans_in ends count) (span_in ends i)).removed
  pub separated-are : length (records dirs g (spans_in ends count)) ≤ most → (i : ℕ) → i < count →
      get_or separated i 0 ≡ (assess dirs g (spans_in ends count) (span_in ends i)).separated
  pub owners-few : length (records dirs g (spans_in ends count)) ≤ most → (k : ℕ) → k < p.pairs → get_or owners k 0 < count
  pub regions : length (records dirs g (spans_in ends count)) ≤ most → (k : ℕ) → k < p.pairs → RegionsInUse (size g) (get_or lefts k 0) (get_or rights k 0)
