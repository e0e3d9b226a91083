use mathlib.Core.Path.{◌≡◌, refl, ◌∙◌}
use mathlib.Core.Bool.{Bool, xor, beq, true, false, ◌&&◌}
use Rattle.order.proofs.Bools.{clash}
use Rattle.areas.specs.Cuts.{cuts}
use Rattle.areas.proofs.geometry.cuts.Goals as goal

alike : (p q m : Bool) → beq p q ≡ true → false ≡ xor p q && m
unfolding xor
alike true true m e = refl
alike true false m e = clash e refl
alike false true m e = clash e refl
alike false false m e = refl

unlike : (p q m : Bool) → beq p q ≡ false → m ≡ xor p q && m
unfolding xor
unlike true true m e = clash refl e
unlike true false m e = refl
unlike false true m e = refl
unlike false false m e = clash refl e

-- p and q are the sides s and t: where they are the same there is no cut, and where they differ there is one if the segments meet
module _ {p q s t : Bool} (h : p ≡ s) (k : q ≡ t) (m : Bool) where
  same : beq p q ≡ true → false ≡ xor s t && m
  same e = rw (← h, ← k) (alike p q m e)

  apart : beq p q ≡ false → {r : Bool} → r ≡ m → r ≡ xor s t && m
  apart e z = rw (← h, ← k) (z ∙ unlike p q m e)

pub returns-then-side : goal.returns-then-side
unfolding cuts
returns-then-side c = same c.side.ensures c.side-2.ensures _ c.if-side.true

pub returns : goal.returns
unfolding cuts
returns c =
    apart c.side.ensures c.side-2.ensures _ c.if-side.false c.segments_intersect.ensures
