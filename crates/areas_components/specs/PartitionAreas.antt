-- The areas of a partition, as 002's `PartitionArea` has them: "labels run from 1 by the first cell in row order".
use Rattle.std.specs.Prelude.{List, map, ℕ}
use Rattle.order.specs.Lists.{up_from}
use Rattle.position.specs.declared.Span.{Span}
use Rattle.grid.specs.Cells.{Grid}
use Rattle.areas.specs.Areas.{area_labels, area_count, cell_count}
use Rattle.areas_components.specs.declared.area.PartitionArea.{PartitionArea}

-- a label, and how many cells have it
abbrev pub area_of : List ℕ → ℕ → PartitionArea
area_of ls r = record { id = r; cell_count = cell_count ls r }

-- all of them, in the order of their labels
unfoldable pub partition_areas : List ℕ → Grid → List Span → List PartitionArea
unfolding area_labels area_count cell_count up_from
partition_areas dirs g ss = map (area_of (area_labels dirs g ss)) (up_from 1 (area_count dirs g ss))
