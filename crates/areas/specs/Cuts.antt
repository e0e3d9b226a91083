-- Which steps a span cuts. Document 01: "a span's ends as a, b, the earlier by 006's order first however they were listed";
-- "A step is cut if its ends' sides differ and the closed segments meet."
use Rattle.std.specs.Prelude.{◌≡◌, Bool, not, ◌&&◌, ◌||◌, ℕ}
use Rattle.std.proofs.Math.Bool.{false, xor}
use mathlib.Core.List.{List, [], ◌∷◌, Memᴰ}
use Rattle.order.specs.Lists.{keep}
use Rattle.position.specs.Order.{canonical}
use Rattle.position.specs.declared.PixelPosition.{PixelPosition}
use Rattle.position.specs.declared.Span.{Span}
use Rattle.graph.specs.Path.{Edge}
use Rattle.grid.specs.Cells.{Grid, centre}
use Rattle.grid.specs.Steps.{Step, step_of, steps}
use Rattle.areas.specs.Segments.{side, meets}

-- a span whose earlier end is listed first cuts the segment from c to d
unfoldable pub cuts : Span → PixelPosition → PixelPosition → Bool
unfolding side meets xor
cuts s c d = xor (side s.a s.b c) (side s.a s.b d) && meets s.a s.b c d

module _ (g : Grid) where
  -- the span cuts the step
  unfoldable pub cut_by : Span → Edge → Bool
  unfolding cuts canonical
  cut_by s e = cuts (canonical s) (centre g e.left) (centre g e.right)

  -- some span cuts the step
  unfoldable pub is_cut : List Span → Edge → Bool
  unfolding cut_by
  is_cut [] e = false
  is_cut (s ∷ ss) e = cut_by s e || is_cut ss e

-- "the cut steps are all those of the map that meet the rule"
unfoldable pub cut_steps : List ℕ → Grid → Span → List Edge
unfolding cut_by keep steps
cut_steps dirs g s = keep (cut_by g s) (steps dirs g)

-- the steps that no span cuts
unfoldable pub uncut_steps : List ℕ → Grid → List Span → List Edge
unfolding is_cut keep steps
uncut_steps dirs g ss = keep (λ e. not (is_cut g ss e)) (steps dirs g)

-- the meaning: a step leads from i to j, and no span cuts it
abbrev pub Uncut : List ℕ → Grid → List Span → ℕ → ℕ → Type 0
Uncut dirs g ss i j = Step dirs g i j × ((s : Span) → Memᴰ s ss → cut_by g s (step_of i j) ≡ false)
