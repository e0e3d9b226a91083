use mathlib.Core.Path.{◌≡◌}
use Prim.Native.Nat.{ℕ, ◌+◌, ◌*◌, ◌<◌}
use lib.ListN.{length}
use Rattle.grid.specs.Cells.{map_of}
use Rattle.areas.specs.Words.{labels_in}
use Rattle.context_cards.specs.Filling.{CardsAfter}
use Rattle.context_cards.proofs.write_cards.Given as goal

abbrev pub invariant-loop-i : goal.invariant-loop-i
invariant-loop-i l = record {
  place : l.row * l.width + l.column ≡ l.i;
  inside : l.column < l.width;
  after : (height : ℕ) → CardsAfter (map_of l.width height l.cells) (labels_in l.labels (length l.cells)) l.areas l.i l.initial.cards l.cards;
}
