-- The slices that a forest lends, from step to step.
use mathlib.Core.Path.{refl, ◌∙◌}
use Rattle.marks_closing.specs.Tables.{SameSlices}
use Rattle.marks_closing.specs.declared.forest.Forest.{Forest}

pub same-start : {f : Forest} → SameSlices f f
same-start = record { parents = refl; heights = refl; joined = refl; earlier = refl }

pub same-next : {f g h : Forest} → SameSlices f g → SameSlices g h → SameSlices f h
same-next p q = record {
  parents = q.parents ∙ p.parents;
  heights = q.heights ∙ p.heights;
  joined = q.joined ∙ p.joined;
  earlier = q.earlier ∙ p.earlier;
}
