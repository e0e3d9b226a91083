use mathlib.Core.Path.{◌≡◌}
use Prim.Native.Nat.{◌≤◌}
use lib.ListN.{take}
use Rattle.areas.specs.Words.{labels_in}
use Rattle.context.specs.AnchorLoop.{anchors_in, anchor_labels}
use Rattle.context.proofs.anchored.anchor_labels.Given as goal

abbrev pub invariant-loop-i : goal.invariant-loop-i
invariant-loop-i l = record {
  few : l.found ≤ l.i;
  read : take l.found l.anchors ≡ anchor_labels l.width (labels_in l.labels l.n) (anchors_in l.job l.at l.i);
}
