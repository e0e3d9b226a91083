-- The areas of a partition: as many as there are labels, area k with the label k + 1, each with a cell.
use mathlib.Core.Path.{◌≡◌, ◌∙◌}
use mathlib.Core.List.{List}
use Prim.Native.Nat.{ℕ, ◌+◌, ◌<◌}
use native.Mathlib.Omega.{arith}
use lib.ListN.{length, get_or, length-map}
use Rattle.order.specs.Lists.{up_from}
use Rattle.order.proofs.Numbers.{map-up-at, up-length}
use Rattle.position.specs.declared.Span.{Span}
use Rattle.grid.specs.Cells.{Grid}
use Rattle.areas.specs.Areas.{area_labels, area_count}
use Rattle.areas.proofs.Counts.{cell-count-some}
use Rattle.areas_components.specs.PartitionAreas.{area_of, partition_areas}
use Rattle.areas_components.specs.declared.area.PartitionArea.{PartitionArea}

module _ (dirs : List ℕ) (g : Grid) (ss : List Span) where
  pub areas-length : length (partition_areas dirs g ss) ≡ area_count dirs g ss
  unfolding partition_areas
  areas-length = length-map (up_from 1 (area_count dirs g ss)) (area_of (area_labels dirs g ss)) ∙ up-length 1 (area_count dirs g ss)

  pub area-at : (k : ℕ) (d : PartitionArea) → k < area_count dirs g ss → get_or (partition_areas dirs g ss) k d ≡ area_of (area_labels dirs g ss) (1 + k)
  unfolding partition_areas
  area-at k d l = map-up-at (area_of (area_labels dirs g ss)) 1 (area_count dirs g ss) k d l

  pub area-has-cells : (k : ℕ) → k < area_count dirs g ss → 0 < (area_of (area_labels dirs g ss) (1 + k)).cell_count
  area-has-cells k l = cell-count-some dirs g ss (1 + k) (omega arith) (omega arith)
