-- A cell has one column and one row.
use mathlib.Core.Path.{◌≡◌, ◌∙◌, ap}
use mathlib.Core.Logic.{by_cases}
use mathlib.Core.Bool.{true}
use Prim.Native.Nat.{ℕ, ◌+◌, ◌*◌, ◌%◌, ◌<◌}
use native.Mathlib.Omega.{arith}
use native.Mathlib.Nat.{zero-mul, add-zero, div-add-mod', mod-lt, mod-eq_of_lt, div-eq_of_lt, div-lt_iff_lt-mul, mul-add-div_right, mul-add-mod_self_right}
use native.Mathlib.Decide.{dec_lt}
use borrow.Author.Tests.{eqb-true}
use lib.ListN.{get_or-eq_default}
use Rattle.grid.specs.Cells.{Grid, Whole, size, cell_at, walkable, index_of, column_of, row_of}

-- a walkable cell is on the map
pub walkable-on : (g : Grid) (i : ℕ) → walkable g i ≡ true → i < size g
unfolding walkable
walkable-on g i h =
    by_cases (dec_lt i (size g)) (λ l. l) λ l.
    absurd (omega (arith, eqb-true (cell_at g i % 2) 1 h, get_or-eq_default g.cells 0 {n = i} (omega arith)))

module _ (g : Grid) where
  pub index-split : (i : ℕ) → index_of g (column_of g i) (row_of g i) ≡ i
  index-split i = div-add-mod' i g.width

  module _ (column row : ℕ) (inside : column < g.width) where
    pub column-of : column_of g (index_of g column row) ≡ column
    column-of = mul-add-mod_self_right row g.width column ∙ mod-eq_of_lt inside

    pub row-of : row_of g (index_of g column row) ≡ row
    row-of = mul-add-div_right (omega arith) row column ∙ (ap (λ (k : ℕ). row + k) (div-eq_of_lt inside) ∙ add-zero row)

  module _ (whole : Whole g) (i : ℕ) (on : i < size g) where
    has-columns : 0 < g.width
    has-columns = by_cases (dec_lt 0 g.width) (λ l. l)
        (λ l. let e : g.width ≡ 0 = omega arith in absurd (omega (arith, ap (λ (k : ℕ). k * g.height) e, zero-mul g.height)))

    pub column-in : column_of g i < g.width
    column-in = mod-lt i has-columns

    pub row_in : row_of g i < g.height
    row_in = (div-lt_iff_lt-mul has-columns).1 (omega arith)
