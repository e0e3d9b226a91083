-- Steps go both ways and lead from one cell to another; a cell has one neighbour in each direction.
use mathlib.Core.Path.{◌≡◌, refl, sym, ◌∙◌, ap, ap₂}
use mathlib.Core.Logic.{⊎_elim}
use mathlib.Core.Bool.{Bool, true, not, ◌&&◌, ◌||◌}
use mathlib.Core.List.{List}
use Prim.Native.Nat.{ℕ, ◌+◌, ◌<◌, ◌≤◌}
use native.Mathlib.Omega.{arith}
use borrow.Author.Tests.{ltb-true, leb-true, lt-ltb, le-leb, not-true}
use lib.Dec.{leb, ltb}
use Rattle.order.proofs.Bools.{clash, by-test, and_parts, and_both, or_cases, or_right}
use Rattle.grid.specs.Cells.{Grid, Whole, walkable, index_of, column_of, row_of}
use Rattle.grid.specs.Directions.{right, down, reverse, diagonal, ClosedUnderReversal}
use Rattle.grid.specs.Steps.{leads_on, column_to, row_to, neighbour, beside, across, has_step, StepBy, Step}
use Rattle.grid.proofs.Index.{walkable-on, index-split, column-of, row-of, column-in, row_in}
use Rattle.grid.proofs.Directions.{reverse-right, reverse-down, reverse-diagonal}

-- what it is to lead on, in numbers
pub record Leads (g : Grid) (i d : ℕ) : Type 0 where
  pub left-edge : 0 < column_of g i + right d
  pub right-edge : column_of g i + right d ≤ g.width
  pub top-edge : 0 < row_of g i + down d
  pub bottom-edge : row_of g i + down d ≤ g.height

pub leads-means : (g : Grid) (i d : ℕ) → leads_on g i d ≡ true → Leads g i d
unfolding leads_on
leads-means g i d h =
    let p = and_parts (ltb 0 (column_of g i + right d) && leb (column_of g i + right d) g.width)
    (ltb 0 (row_of g i + down d) && leb (row_of g i + down d) g.height) h in
    let q = and_parts (ltb 0 (column_of g i + right d)) (leb (column_of g i + right d) g.width) p.0 in
    let r = and_parts (ltb 0 (row_of g i + down d)) (leb (row_of g i + down d) g.height) p.1 in
    record { left-edge = ltb-true _ _ q.0; right-edge = leb-true _ _ q.1; top-edge = ltb-true _ _ r.0; bottom-edge = leb-true _ _ r.1 }

pub means-leads : (g : Grid) (i d : ℕ) → Leads g i d → leads_on g i d ≡ true
unfolding leads_on
means-leads g i d m =
    and_both (and_both (lt-ltb 0 (column_of g i + right d) m.left-edge) (le-leb (column_of g i + right d) g.width m.right-edge))
    (and_both (lt-ltb 0 (row_of g i + down d) m.top-edge) (le-leb (row_of g i + down d) g.height m.bottom-edge))

-- the column and the row that a direction leads to
module _ (g : Grid) (i d : ℕ) (m : Leads g i d) where
  pub neighbour-column : column_of g (neighbour g i d) ≡ column_to g i d
  neighbour-column = column-of g (column_to g i d) (row_to g i d) (omega arith)

  pub neighbour-row : row_of g (neighbour g i d) ≡ row_to g i d
  neighbour-row = row-of g (column_to g i d) (row_to g i d) (omega arith)

-- a cell has one neighbour in each direction, and each in one
pub neighbour-one : (g : Grid) (i d k : ℕ) → leads_on g i d ≡ true → leads_on g i k ≡ true → neighbour g i d ≡ neighbour g i k → d ≡ k
neighbour-one g i d k h l e = only (leads-means g i d h) (leads-means g i k l)
  where
    only : Leads g i d → Leads g i k → d ≡ k
    only m n = omega (
      arith,
      neighbour-column g i d m,
      neighbour-column g i k n,
      neighbour-row g i d m,
      neighbour-row g i k n,
      ap (column_of g) e,
      ap (row_of g) e,
    )

-- the computed test is what a step means
module _ (g : Grid) (i d : ℕ) where
  abbrev sides_walkable : Bool
  sides_walkable = walkable g (beside g i d) && walkable g (across g i d)

  pub has-step : has_step g i d ≡ true → StepBy g d i (neighbour g i d)
  unfolding has_step
  has-step h =
      let p = and_parts (leads_on g i d) (walkable g i && (walkable g (neighbour g i d) && (not (diagonal d) || sides_walkable))) h in
      let q = and_parts (walkable g i) (walkable g (neighbour g i d) && (not (diagonal d) || sides_walkable)) p.1 in
      let r = and_parts (walkable g (neighbour g i d)) (not (diagonal d) || sides_walkable) q.1 in
      record {
        leads = p.0;
        there = refl;
        from = q.0;
        to = r.0;
        sides = λ e.
            ⊎_elim (λ k. clash e (not-true (diagonal d) k)) (λ k. and_parts (walkable g (beside g i d)) (walkable g (across g i d)) k)
            (or_cases (not (diagonal d)) sides_walkable r.1);
      }

  pub step-has : {j : ℕ} → StepBy g d i j → has_step g i d ≡ true
  unfolding has_step
  step-has s = and_both s.leads (and_both s.from (and_both end corners))
    where
      end : walkable g (neighbour g i d) ≡ true
      end = rw s.there s.to

      corners : not (diagonal d) || sides_walkable ≡ true
      corners = by-test (diagonal d) (λ e. let p = s.sides e in or_right (not (diagonal d)) (and_both p.0 p.1)) (λ e. rw e)

module _ {g : Grid} (whole : Whole g) {d i j : ℕ} (small : d < 9) (s : StepBy g d i j) where
  column-from : column_of g i < g.width
  column-from = column-in g whole i (walkable-on g i s.from)

  row_from : row_of g i < g.height
  row_from = row_in g whole i (walkable-on g i s.from)

  leads : Leads g i d
  leads = leads-means g i d s.leads

  -- where the step leads
  pub column-to : column_of g j ≡ column_to g i d
  column-to = ap (column_of g) (sym s.there) ∙ neighbour-column g i d leads

  pub row-to : row_of g j ≡ row_to g i d
  row-to = ap (row_of g) (sym s.there) ∙ neighbour-row g i d leads

  -- and where its reverse does
  column-back : column_to g j (reverse d) ≡ column_of g i
  column-back = omega (arith, leads, column-to, reverse-right d small)

  row_back : row_to g j (reverse d) ≡ row_of g i
  row_back = omega (arith, leads, row-to, reverse-down d small)

  pub reverse-step : StepBy g (reverse d) j i
  reverse-step = record {
    leads = means-leads g j (reverse d) (record {
      left-edge = omega (arith, leads, column-to, reverse-right d small);
      right-edge = omega (arith, leads, column-to, reverse-right d small, column-from);
      top-edge = omega (arith, leads, row-to, reverse-down d small);
      bottom-edge = omega (arith, leads, row-to, reverse-down d small, row_from);
    });
    there = ap₂ (index_of g) column-back row_back ∙ index-split g i;
    from = s.to;
    to = s.from;
    sides = λ e.
        let p = s.sides (reverse-diagonal d small ∙ e) in
        (ap (walkable g) (ap₂ (index_of g) column-back row-to) ∙ p.1, ap (walkable g) (ap₂ (index_of g) column-to row_back) ∙ p.0);
  }

  stays : i ≡ j → d ≡ 4
  stays e = omega (arith, leads, column-to, row-to, ap (column_of g) e, ap (row_of g) e)

module _ {dirs : List ℕ} (closed : ClosedUnderReversal dirs) {g : Grid} (whole : Whole g) {i j : ℕ} (s : Step dirs g i j) where
  -- a step goes both ways
  pub step_back : Step dirs g j i
  step_back = record {
    by = reverse s.by;
    among = closed.back s.by s.among;
    taken = reverse-step whole (closed.each s.by s.among).0 s.taken;
  }

  -- and never leads to where it comes from
  pub step-apart : i ≡ j → ⊥
  step-apart e = let h = closed.each s.by s.among in h.1 (stays whole h.0 s.taken e)
