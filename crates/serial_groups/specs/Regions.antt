-- What the listing's spans make of the map: regions, and what each rank does to them. 001's `PartitionContext`.
use Rattle.std.specs.Prelude.{Bool, List, ℕ, length, get_or}
use Rattle.order.specs.Lists.{keep, up_from}
use Rattle.graph.specs.Bridges.{is_bridge}
use Rattle.grid.specs.Cells.{Grid}
use Rattle.areas.specs.Areas.{area_labels, area_count}
use Rattle.areas.specs.Assessments.{Assessment, assess, records}
use Rattle.context.specs.RegionStats.{RegionStats, region_cells, region_stats}
use Rattle.context.specs.FullPair.{touches}
use Rattle.context.specs.Listing.{Item}
use Rattle.serial_groups.specs.Listing.{no_item, spans_of}

module _ (dirs : List ℕ) (g : Grid) (l : List Item) where
  -- the region of each cell; regions are numbered from 1 to their count
  unfoldable pub region_labels : List ℕ
  unfolding area_labels
  region_labels = area_labels dirs g (spans_of l)

  unfoldable pub region_count : ℕ
  unfolding area_count
  region_count = area_count dirs g (spans_of l)

  -- the cells of a region in row order, and their statistics
  unfoldable pub cells_of : ℕ → List ℕ
  unfolding region_labels region_cells
  cells_of r = region_cells region_labels r

  unfoldable pub stats_of : ℕ → RegionStats
  unfolding region_labels region_stats
  stats_of r = region_stats g region_labels r

  -- what the span of a rank does
  unfoldable pub assess_at : ℕ → Assessment
  unfolding assess
  assess_at i = assess dirs g (spans_of l) (get_or l i no_item).span

  -- the ranks that touch a region, in order
  unfoldable pub touching : ℕ → List ℕ
  unfolding assess_at touches keep up_from
  touching r = keep (λ i. touches (assess_at i) r) (up_from 0 (length l))

  -- the rank is a bridge
  unfoldable pub bridge_at : ℕ → Bool
  unfolding records is_bridge
  bridge_at i = is_bridge (records dirs g (spans_of l)) i
