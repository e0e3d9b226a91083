-- The strip of a span holds both cells of each step that the span cuts.
use mathlib.Core.Path.{◌≡◌, sym, ◌∙◌, ap}
use mathlib.Core.Logic.{by_cases, ⊎_elim}
use mathlib.Core.Bool.{true}
use mathlib.Core.List.{List}
use Prim.Native.Nat.{ℕ, ◌+◌, ◌*◌, ◌≤◌, ◌<◌}
use native.Mathlib.Omega.{arith}
use native.Mathlib.Decide.{dec_lt, dec_le}
use borrow.Author.Tests.{le-leb}
use Rattle.position.specs.Order.{canonical}
use Rattle.position.specs.declared.PixelPosition.{PixelPosition}
use Rattle.position.specs.declared.Span.{Span}
use Rattle.position.proofs.Order.{le-means, canonical-ordered}
use Rattle.grid.specs.Cells.{Grid, Whole, column_of, row_of, centre}
use Rattle.grid.specs.Directions.{ClosedUnderReversal}
use Rattle.grid.specs.Steps.{column_to, row_to, Step, StepBy, step_of}
use Rattle.grid.proofs.Index.{walkable-on, column-in, row_in}
use Rattle.grid.proofs.Steps.{Leads, leads-means, column-to, row-to}
use Rattle.areas.specs.Segments.{cross_plus, cross_minus, side}
use Rattle.areas.specs.Cuts.{cut_by}
use Rattle.areas.specs.Strip.{gap, Near, InStrip}
use Rattle.areas.proofs.Crossing.{Weighed, weigh}
use Rattle.areas.proofs.Cuts.{cut-iff}
use Rattle.areas.proofs.Line.{covered}

-- the cells are at most one column and one row apart, and the first is on the map
record Touch (g : Grid) (i j : ℕ) : Type 0 where
  column : column_of g i < g.width
  row : row_of g i < g.height
  right : column_of g j ≤ column_of g i + 1
  left : column_of g i ≤ column_of g j + 1
  down : row_of g j ≤ row_of g i + 1
  up : row_of g i ≤ row_of g j + 1

touch : {g : Grid} → Whole g → {d i j : ℕ} → d < 9 → StepBy g d i j → Touch g i j
touch {g} whole {d} {i} {j} small s = go (leads-means g i d s.leads) (column-to whole small s) (row-to whole small s)
  where
    go : Leads g i d → column_of g j ≡ column_to g i d → row_of g j ≡ row_to g i d → Touch g i j
    go m p q = record {
      column = column-in g whole i (walkable-on g i s.from);
      row = row_in g whole i (walkable-on g i s.from);
      right = omega arith;
      left = omega arith;
      down = omega arith;
      up = omega arith;
    }

-- where a span has a point in common with a step, the step's first cell is in the strip
weighed-in : (g : Grid) (s : Span) (i j : ℕ) → s.a.x ≤ s.b.x → (s.a.x ≡ s.b.x → s.a.y ≡ s.b.y → ⊥) → Touch g i j →
    Weighed s.a s.b (centre g i) (centre g j) → InStrip g s i
weighed-in g s i j le ne k v =
    by_cases (dec_le (gap s.a.y s.b.y) (gap s.a.x s.b.x))
    (λ m. InStrip.wide m (wide v m))
    (λ m. let l : gap s.a.x s.b.x < gap s.a.y s.b.y = omega arith in
    by_cases (dec_le s.a.y s.b.y) (λ o. InStrip.falls l o (falls v l o))
    (λ o. let n : s.b.y < s.a.y = omega arith in InStrip.rises l n (rises v l n)))
  where
    wide : Weighed s.a s.b (centre g i) (centre g j) → gap s.a.y s.b.y ≤ gap s.a.x s.b.x →
        Near s.a.x s.a.y s.b.x s.b.y g.width g.height (column_of g i) (row_of g i)
    wide v m =
        let lt : s.a.x < s.b.x = by_cases (dec_lt s.a.x s.b.x) (λ l. l) (λ l. absurd (ne (omega arith) (omega arith))) in
        covered s.a.x s.a.y s.b.x s.b.y g.width g.height (column_of g i) (row_of g i) (8 * column_of g j + 4) (8 * row_of g j + 4) v.r
        v.s v.u v.t lt
        (omega arith) (omega arith) k.column k.row (omega arith) (omega arith) (omega arith) (omega arith) v.some v.all v.same-x v.same-y

    falls : Weighed s.a s.b (centre g i) (centre g j) → gap s.a.x s.b.x < gap s.a.y s.b.y → s.a.y ≤ s.b.y →
        Near s.a.y s.a.x s.b.y s.b.x g.height g.width (row_of g i) (column_of g i)
    falls v m o =
        covered s.a.y s.a.x s.b.y s.b.x g.height g.width (row_of g i) (column_of g i) (8 * row_of g j + 4) (8 * column_of g j + 4) v.r
        v.s v.u v.t (omega arith)
        (omega arith) (omega arith) k.row k.column (omega arith) (omega arith) (omega arith) (omega arith) v.some v.all v.same-y v.same-x

    rises : Weighed s.a s.b (centre g i) (centre g j) → gap s.a.x s.b.x < gap s.a.y s.b.y → s.b.y < s.a.y →
        Near s.b.y s.b.x s.a.y s.a.x g.height g.width (row_of g i) (column_of g i)
    rises v m o =
        covered s.b.y s.b.x s.a.y s.a.x g.height g.width (row_of g i) (column_of g i) (8 * row_of g j + 4) (8 * column_of g j + 4) v.s
        v.r v.u v.t (omega arith)
        (omega arith) (omega arith) k.row k.column (omega arith) (omega arith) (omega arith) (omega arith) (omega arith) (omega arith)
        (omega (arith, v.same-y)) (omega (arith, v.same-x))

-- a span whose ends coincide has every point on one side
flat : (a b p : PixelPosition) → a.x ≡ b.x → a.y ≡ b.y → side a b p ≡ true
unfolding side
flat a b p ex ey =
    le-leb (cross_minus a b p) (cross_plus a b p) (omega (arith, ap (λ z. z * p.y) ex, ap (λ z. z * p.x) ey, ap (λ z. z * a.y) ex, ap (λ z. z * a.x) ey))

module _ {dirs : List ℕ} (closed : ClosedUnderReversal dirs) {g : Grid} (whole : Whole g) (s : Span) {i j : ℕ} (t : Step dirs g i j)
    (cut : cut_by g s (step_of i j) ≡ true) where
  -- the first cell of a cut step is in the strip
  pub cut-covers : InStrip g (canonical s) i
  cut-covers =
      let e = canonical s in
      let p = (cut-iff g s (step_of i j)).0 cut in
      weighed-in g e i j (⊎_elim (λ h. omega arith) (λ h. omega arith) (le-means e.a e.b (canonical-ordered s)))
      (λ ex ey. p.0 (flat e.a e.b (centre g i) ex ey ∙ sym (flat e.a e.b (centre g j) ex ey)))
      (touch whole (closed.each t.by t.among).0 t.taken) (weigh p.1)
