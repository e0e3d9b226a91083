-- The step in a direction from a place of the map.
use mathlib.Core.Path.{◌≡◌, refl, sym, ◌∙◌, ap, ap₂}
use mathlib.Core.Bool.{Bool, true, false, ◌&&◌, and-false, cond}
use mathlib.Core.List.{List, [], ◌∷◌}
use Prim.Native.Nat.{ℕ, ◌+◌, ◌*◌, ◌/◌, ◌%◌, ◌≤◌, ◌<◌}
use native.Mathlib.Omega.{arith}
use lib.ListN.{length}
use Rattle.order.specs.Lists.{has}
use Rattle.position.specs.declared.Span.{Span}
use Rattle.position.specs.declared.WalkPosition.{WalkPosition}
use Rattle.graph.specs.Path.{Edge}
use Rattle.grid.specs.Cells.{Grid, index_of, column_of, row_of, map_of}
use Rattle.grid.specs.Steps.{neighbour, column_to, row_to, has_step, step_of, CellPlace}
use Rattle.grid.proofs.Index.{walkable-on}
use Rattle.grid.proofs.Reach.{place-column, place-row, place-on}
use Rattle.grid.proofs.Steps.{Leads, leads-means, has-step, column-to, row-to}
use Rattle.areas.specs.Cuts.{cut_by}
use Rattle.areas_assessments.specs.Visits.{SpanOnMap, is_cut_in, cut_in}

module _ (dirs : List ℕ) (g : Grid) (s : Span) (i d : ℕ) where
  go-cut : (a b c : Bool) → a ≡ has d dirs → b ≡ has_step g i d → c ≡ cut_by g s (step_of i (neighbour g i d)) → is_cut_in dirs g s i d ≡ (a && (b && c))
  unfolding is_cut_in
  go-cut a b c e f h = rw (e, f, h)

  list-is : (b : Bool) → is_cut_in dirs g s i d ≡ b → cut_in dirs g s i d ≡ cond b (step_of i (neighbour g i d) ∷ []) []
  unfolding cut_in
  list-is b e = rw e

  pub not-among : has d dirs ≡ false → cut_in dirs g s i d ≡ []
  not-among e = list-is false (go-cut false (has_step g i d) (cut_by g s (step_of i (neighbour g i d))) (sym e) refl refl)

  pub not_step : has_step g i d ≡ false → cut_in dirs g s i d ≡ []
  not_step e = list-is false (go-cut (has d dirs) false (cut_by g s (step_of i (neighbour g i d))) refl (sym e) refl ∙ and-false (has d dirs))

  pub not-cut : has_step g i d ≡ true → cut_by g s (step_of i (neighbour g i d)) ≡ false → cut_in dirs g s i d ≡ []
  not-cut e f = list-is false (go-cut (has d dirs) true false refl (sym e) (sym f) ∙ and-false (has d dirs))

  pub is-step : {x y : ℕ} → x ≡ i → y ≡ neighbour g i d → has d dirs ≡ true → has_step g i d ≡ true → cut_by g s (step_of i (neighbour g i d)) ≡ true →
      step_of x y ∷ [] ≡ cut_in dirs g s i d
  is-step ex ey e f h = ap (λ (z : Edge). z ∷ []) (ap₂ step_of ex ey) ∙ sym (list-is true (go-cut true true true (sym e) (sym f) (sym h)))

pub on-map : {w h : ℕ} {cs labels : List ℕ} {s : Span} {k i : ℕ} → SpanOnMap w h cs labels s → i < length cs → k ≡ i → k < w * h
on-map m l e = omega (arith, m.whole)

-- where a direction leads from a place
pub record Arrives (w h : ℕ) (p : WalkPosition) (d : ℕ) : Type 0 where
  pub left : 0 < p.x + d % 3
  pub top : 0 < p.y + d / 3
  pub right : p.x + d % 3 ≤ w
  pub bottom : p.y + d / 3 ≤ h

module _ {w h : ℕ} {cs labels : List ℕ} {s : Span} (p : WalkPosition) (m : SpanOnMap w h cs labels s) (lx : p.x < w) (ly : p.y < h) where
  pub placed : CellPlace w h cs p
  placed = record { wide = m.sides.wide; high = m.sides.high; whole = m.whole; column = lx; row = ly }

  pub fits-label-at : {k i : ℕ} → i < length cs → k ≡ i → 4 * k + 4 ≤ length labels
  fits-label-at l e = omega (arith, m.labelled, m.whole)

  pub here_on : p.y * w + p.x < length cs
  here_on = place-on placed

  pub index-here : {k : ℕ} → ((g : Grid) → g.width ≡ w → k ≡ index_of g p.x p.y) → k ≡ p.y * w + p.x
  index-here e = e (map_of w h cs) refl

  module _ (d : ℕ) (t : has_step (map_of w h cs) (p.y * w + p.x) d ≡ true) where
    pub there-on : neighbour (map_of w h cs) (p.y * w + p.x) d < length cs
    there-on = walkable-on (map_of w h cs) (neighbour (map_of w h cs) (p.y * w + p.x) d) (has-step (map_of w h cs) (p.y * w + p.x) d t).to

    pub arrives : Arrives w h p d
    arrives = go (leads-means (map_of w h cs) (p.y * w + p.x) d (has-step (map_of w h cs) (p.y * w + p.x) d t).leads)
      where
        go : Leads (map_of w h cs) (p.y * w + p.x) d → Arrives w h p d
        go l =
            let ex = place-column placed in
            let ey = place-row placed in
            record {
              left = omega (arith, l.left-edge);
              top = omega (arith, l.top-edge);
              right = omega (arith, l.right-edge);
              bottom = omega (arith, l.bottom-edge);
            }

    -- the place q that it leads to
    module _ (small : d < 9) (q : WalkPosition)
        (to : (g : Grid) (i : ℕ) → column_of g i ≡ p.x → row_of g i ≡ p.y → (q.x ≡ column_to g i d) × (q.y ≡ row_to g i d)) where
      there : (q.x ≡ column_to (map_of w h cs) (p.y * w + p.x) d) × (q.y ≡ row_to (map_of w h cs) (p.y * w + p.x) d)
      there = to (map_of w h cs) (p.y * w + p.x) (place-column placed) (place-row placed)

      pub there-in : (q.x < 1024) × (q.y < 1024)
      there-in =
          let a = arrives in
          let e = place-column placed in
          let f = place-row placed in
          let u = there.0 in
          let v = there.1 in (omega (arith, m.sides.wide, a.left, a.right), omega (arith, m.sides.high, a.top, a.bottom))

      pub index-there : {k : ℕ} → ((g : Grid) → g.width ≡ w → k ≡ index_of g q.x q.y) → k ≡ neighbour (map_of w h cs) (p.y * w + p.x) d
      index-there e = e (map_of w h cs) refl ∙ ap₂ (index_of (map_of w h cs)) there.0 there.1

      pub step_cut : {r : Bool}
          → ((g : Grid) (i j : ℕ) → column_of g i ≡ p.x → row_of g i ≡ p.y → column_of g j ≡ q.x → row_of g j ≡ q.y → r ≡ cut_by g s (step_of i j)) →
          r ≡ cut_by (map_of w h cs) s (step_of (p.y * w + p.x) (neighbour (map_of w h cs) (p.y * w + p.x) d))
      step_cut e =
          e (map_of w h cs) (p.y * w + p.x) (neighbour (map_of w h cs) (p.y * w + p.x) d) (place-column placed) (place-row placed)
          (column-to m.whole small (has-step (map_of w h cs) (p.y * w + p.x) d t) ∙ sym there.0)
          (row-to m.whole small (has-step (map_of w h cs) (p.y * w + p.x) d t) ∙ sym there.1)
