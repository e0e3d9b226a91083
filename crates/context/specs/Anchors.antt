-- The cells that routes to bases start from, and the regions that they lie in.
use Rattle.std.specs.Prelude.{Bool, false, ◌||◌, List, [], ◌∷◌, ℕ, eqb}
use Rattle.std.proofs.Math.Option.{Option, none, some}
use Rattle.order.specs.Lists.{gather}
use Rattle.position.specs.declared.WalkPosition.{WalkPosition}
use Rattle.format.specs.Values.{Base}
use Rattle.grid.specs.Cells.{Grid, index_of}
use Rattle.areas.specs.Areas.{label_at}

-- none, or one
abbrev pub optional : Option WalkPosition → List WalkPosition
optional none = []
optional (some p) = p ∷ []

-- the anchors of all bases that have one
unfoldable pub anchors_of : List Base → List WalkPosition
unfolding gather
anchors_of bases = gather (λ (b : Base). optional b.anchor) bases

-- some anchor's cell has the label r
unfoldable pub is_anchored : Grid → List ℕ → List WalkPosition → ℕ → Bool
is_anchored g ls [] r = false
is_anchored g ls (p ∷ ps) r = eqb r (label_at ls (index_of g p.x p.y)) || is_anchored g ls ps r
