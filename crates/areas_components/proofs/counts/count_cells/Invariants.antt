use mathlib.Core.Path.{◌≡◌}
use Prim.Native.Nat.{◌≤◌}
use Rattle.areas.specs.Areas.{cell_count}
use Rattle.areas.specs.Words.{labels_in}
use Rattle.areas_components.proofs.counts.count_cells.Given as goal

abbrev pub invariant-loop-i : goal.invariant-loop-i
invariant-loop-i l = (l.count ≤ l.i) × (l.count ≡ cell_count (labels_in l.work l.i) l.label)
