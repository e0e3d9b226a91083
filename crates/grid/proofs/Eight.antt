-- The steps over the eight directions are those of document 01, by columns and rows.
use mathlib.Core.Path.{◌≡◌, sym, ◌∙◌, ap, ap₂}
use mathlib.Core.Logic.{◌↔◌, by_cases}
use mathlib.Core.Bool.{true, not}
use mathlib.Core.List.Memᴰ
use mathlib.Core.List.{Memᴰ}
use Prim.Native.Nat.{ℕ, ◌+◌, ◌*◌, ◌-◌, ◌<◌, ◌≤◌}
use native.Mathlib.Omega.{arith}
use native.Mathlib.Decide.{dec_lt}
use borrow.Author.Tests.{eqb-false, ne_eqb, not-true}
use lib.Dec.{eqb}
use Rattle.order.specs.Lists.{up_from}
use Rattle.order.proofs.Numbers.{mem_up}
use Rattle.order.proofs.Bools.{and_parts}
use Rattle.grid.specs.Cells.{Grid, Whole, walkable, index_of, column_of, row_of}
use Rattle.grid.specs.Directions.{IsDirection, right, down, diagonal, eight}
use Rattle.grid.specs.Steps.{column_to, row_to, Step}
use Rattle.grid.specs.Eight.{EightStep}
use Rattle.grid.proofs.Index.{walkable-on, index-split, column-in, row_in}
use Rattle.grid.proofs.Directions.{eight-closed}
use Rattle.grid.proofs.Steps.{Leads, leads-means, means-leads, column-to, row-to, step-apart}

in-eight : (d : ℕ) → IsDirection d → Memᴰ d eight
unfolding up_from
in-eight d h =
    by_cases (dec_lt d 4) (λ l. Memᴰ.append_left (up_from 5 4) (mem_up 0 4 d (omega arith) (omega arith)))
    (λ l. Memᴰ.append_right (up_from 0 4) (mem_up 5 4 d (let n = h.1 in omega arith) (omega (arith, h.0))))

-- a direction by the rows and columns that it leads on
digits : (x y : ℕ) → x ≤ 2 → y ≤ 2 → (right (x * 3 + y) ≡ y) × (down (x * 3 + y) ≡ x)
digits x y h k = omega arith

diagonal-means : (d : ℕ) → (diagonal d ≡ true) ↔ ((right d ≡ 1 → ⊥) × (down d ≡ 1 → ⊥))
unfolding diagonal
diagonal-means d = (
  λ h.
      let p = and_parts (not (eqb (right d) 1)) (not (eqb (down d) 1)) h in
      (eqb-false (right d) 1 (not-true (eqb (right d) 1) p.0), eqb-false (down d) 1 (not-true (eqb (down d) 1) p.1)),
  λ h. rw (ne_eqb (right d) 1 h.0, ne_eqb (down d) 1 h.1),
)

module _ (g : Grid) (whole : Whole g) (i j : ℕ) where
  to-eight : Step eight g i j → EightStep g i j
  to-eight s = record {
    from = s.taken.from;
    to = s.taken.to;
    apart = step-apart eight-closed whole s;
    columns = omega (arith, column, leads);
    rows = omega (arith, row, leads, small);
    sides = λ c r.
        let p = s.taken.sides ((diagonal-means s.by).1 (λ e. c (omega (arith, column)), λ e. r (omega (arith, row)))) in
        (ap (λ (k : ℕ). walkable g (index_of g k (row_of g i))) column ∙ p.0, ap (λ (k : ℕ). walkable g (index_of g (column_of g i) k)) row ∙ p.1);
  }
    where
      small : s.by < 9
      small = (eight-closed.each s.by s.among).0

      leads : Leads g i s.by
      leads = leads-means g i s.by s.taken.leads

      column : column_of g j ≡ column_to g i s.by
      column = column-to whole small s.taken

      row : row_of g j ≡ row_to g i s.by
      row = row-to whole small s.taken

  from-eight : EightStep g i j → Step eight g i j
  from-eight s = record {
    by = d;
    among = in-eight d (
      omega (arith, s.columns, s.rows),
      λ e. s.apart (sym (index-split g i) ∙ (ap₂ (index_of g) (omega (arith, e)) (omega (arith, e)) ∙ index-split g j)),
    );
    taken = record {
      leads = means-leads g i d (record {
        left-edge = omega (arith, places);
        right-edge = omega (arith, places, column-in g whole j (walkable-on g j s.to));
        top-edge = omega (arith, places);
        bottom-edge = omega (arith, places, row_in g whole j (walkable-on g j s.to));
      });
      there = ap₂ (index_of g) column row ∙ index-split g j;
      from = s.from;
      to = s.to;
      sides = λ e.
          let h = (diagonal-means d).0 e in
          let p = s.sides (λ c. h.0 (omega (arith, places))) (λ r. h.1 (omega (arith, places))) in
          (ap (λ (k : ℕ). walkable g (index_of g k (row_of g i))) column ∙ p.0, ap (λ (k : ℕ). walkable g (index_of g (column_of g i) k)) row ∙ p.1);
    };
  }
    where
      d : ℕ
      d = (row_of g j + 1 - row_of g i) * 3 + (column_of g j + 1 - column_of g i)

      places : (right d ≡ column_of g j + 1 - column_of g i) × (down d ≡ row_of g j + 1 - row_of g i)
      places = digits (row_of g j + 1 - row_of g i) (column_of g j + 1 - column_of g i) (omega (arith, s.rows)) (omega (arith, s.columns))

      column : column_to g i d ≡ column_of g j
      column = omega (arith, places, s.columns)

      row : row_to g i d ≡ row_of g j
      row = omega (arith, places, s.rows)

  pub eight-iff : Step eight g i j ↔ EightStep g i j
  eight-iff = (to-eight, from-eight)
