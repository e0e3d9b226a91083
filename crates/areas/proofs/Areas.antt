-- What the labels of a partition mean, and on what they depend.
use mathlib.Core.Path.{◌≡◌, ◌∙◌, ap}
use mathlib.Core.Logic.{◌↔◌}
use mathlib.Core.Bool.{true, false}
use mathlib.Core.List.{List, ◌∷◌, map, Memᴰ}
use Prim.Native.Nat.{ℕ, ◌<◌, ◌≤◌}
use lib.ListN.{length}
use Rattle.order.specs.Pairs.{SameMembers}
use Rattle.position.specs.Order.{canonical}
use Rattle.position.specs.declared.Span.{Span}
use Rattle.graph.specs.Path.{Edge, Path}
use Rattle.graph.specs.Labelling.{Labelling}
use Rattle.graph.specs.Labels.{label, labels, label_count}
use Rattle.graph.proofs.Labels.{label-max, label-occurs}
use Rattle.graph.proofs.LabelList.{labels_length, labels_at, labels-labelling}
use Rattle.graph.proofs.Unique.{labels-unique}
use Rattle.grid.specs.Cells.{Grid, size, walkable}
use Rattle.grid.specs.Steps.{steps}
use Rattle.grid.proofs.Index.{walkable-on}
use Rattle.areas.specs.Cuts.{cut_by, uncut_steps}
use Rattle.areas.specs.Areas.{area_labels, area_count, label_at}
use Rattle.areas.proofs.Cuts.{uncut-among, uncut-same, uncut-idle}

module _ (dirs : List ℕ) (g : Grid) (ss : List Span) where
  pub area-labels-length : length (area_labels dirs g ss) ≡ size g
  unfolding area_labels
  area-labels-length = labels_length (size g) (walkable g) (uncut_steps dirs g ss)

  -- blocked cells are 0, walkable ones are not, and labels run from 1 by the first cell in row order
  pub labels-by-first-cell : Labelling (size g) (walkable g) (uncut_steps dirs g ss) (label_at (area_labels dirs g ss))
  unfolding area_labels
  labels-by-first-cell = labels-labelling (size g) (walkable g) (uncut_steps dirs g ss) (uncut-among dirs g ss)

  -- and there is one such list
  pub only-labels : (ls : List ℕ) → length ls ≡ size g → Labelling (size g) (walkable g) (uncut_steps dirs g ss) (label_at ls) → ls ≡ area_labels dirs g ss
  unfolding area_labels
  only-labels ls e l = labels-unique (uncut-among dirs g ss) ls e l

  -- two walkable cells have one label exactly if a path of uncut steps joins them
  pub same-label-iff : (i j : ℕ) → walkable g i ≡ true → walkable g j ≡ true →
      (label_at (area_labels dirs g ss) i ≡ label_at (area_labels dirs g ss) j) ↔ Path (uncut_steps dirs g ss) i j
  same-label-iff i j h k = labels-by-first-cell.same i j (walkable-on g i h) (walkable-on g j k) h k

  label_is : (i : ℕ) → i < size g → label_at (area_labels dirs g ss) i ≡ label (walkable g) (uncut_steps dirs g ss) i
  unfolding area_labels
  label_is = labels_at (size g) (walkable g) (uncut_steps dirs g ss)

  -- the labels are those from 1 to the count
  pub label-at-most : (i : ℕ) → i < size g → label_at (area_labels dirs g ss) i ≤ area_count dirs g ss
  unfolding area_count
  label-at-most i l = rw (label_is i l) (label-max (walkable g) (uncut_steps dirs g ss) (uncut-among dirs g ss) (size g) i l)

  pub each-label-occurs : (v : ℕ) → 0 < v → v ≤ area_count dirs g ss → (i : ℕ) × (i < size g) × (label_at (area_labels dirs g ss) i ≡ v)
  unfolding area_count
  each-label-occurs v p l =
      let w = label-occurs (walkable g) (uncut_steps dirs g ss) (uncut-among dirs g ss) (size g) v p l in (w.0, w.1, label_is w.0 w.1 ∙ w.2)

module _ (dirs : List ℕ) (g : Grid) where
  -- labels depend on the set of spans alone: not on their order, on repeats, or on how their ends are listed
  pub labels-depend-on-the-set : (ss ts : List Span) → SameMembers (map canonical ss) (map canonical ts) → area_labels dirs g ss ≡ area_labels dirs g ts
  unfolding area_labels
  labels-depend-on-the-set ss ts same = ap (labels (size g) (walkable g)) (uncut-same dirs g ss ts same)

  pub count-depends-on-the-set : (ss ts : List Span) → SameMembers (map canonical ss) (map canonical ts) → area_count dirs g ss ≡ area_count dirs g ts
  unfolding area_count
  count-depends-on-the-set ss ts same = ap (label_count (size g) (walkable g)) (uncut-same dirs g ss ts same)

  -- a span that cuts no step changes no label
  pub idle-span : (s : Span) (ss : List Span) → ((e : Edge) → Memᴰ e (steps dirs g) → cut_by g s e ≡ false)
      → area_labels dirs g (s ∷ ss) ≡ area_labels dirs g ss
  unfolding area_labels
  idle-span s ss idle = ap (labels (size g) (walkable g)) (uncut-idle dirs g s ss idle)
