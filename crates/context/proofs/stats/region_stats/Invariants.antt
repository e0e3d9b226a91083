use mathlib.Core.Path.{◌≡◌}
use Prim.Native.Nat.{ℕ}
use lib.ListN.{length}
use Rattle.grid.specs.Cells.{map_of}
use Rattle.areas.specs.Words.{labels_in}
use Rattle.context.specs.Held.{stats_after, first_cells}
use Rattle.context.proofs.stats.region_stats.Given as goal

abbrev pub invariant-loop-i : goal.invariant-loop-i
invariant-loop-i l =
    (height : ℕ) → l.stats ≡ stats_after (map_of l.width height l.cells) (first_cells (labels_in l.labels (length l.cells)) l.region l.i)
