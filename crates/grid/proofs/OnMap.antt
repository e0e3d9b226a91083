-- The cell at a position: one where both its column and its row are on the map, and none elsewhere.
use mathlib.Core.Path.{◌≡◌, sym, ◌∙◌, ap}
use mathlib.Core.Logic.{◌↔◌, by_cases}
use mathlib.Core.Bool.{and-false}
use mathlib.Core.List.{List}
use Prim.Native.Nat.{ℕ, ◌+◌, ◌*◌, ◌<◌, ◌≤◌}
use native.Mathlib.Omega.{arith}
use native.Mathlib.Nat.{mul-le-mul}
use native.Mathlib.Decide.{dec_lt}
use borrow.Author.Tests.{lt-ltb, le-ltb}
use lib.Dec.{ltb}
use lib.ListN.{length, get_or}
use Rattle.std.proofs.Common.{Bor}
use Rattle.std.specs.Prelude.{Option, Some, None, is_some, unwrap_or, option_copied}
use Rattle.position.specs.declared.WalkPosition.{WalkPosition}
use Rattle.grid.specs.Cells.{Grid, Whole, size, index_of, column_of, row_of}
use Rattle.grid.specs.Index.{index_at, byte_at, byte_of, cell_on}
use Rattle.grid.proofs.Index.{index-split, column-of, row-of, column-in, row_in}

module _ (g : Grid) (p : WalkPosition) where
  pub past-columns : g.width ≤ p.x → None ≡ index_at g p
  unfolding index_at
  past-columns l = rw (le-ltb p.x g.width l)

  pub past-rows : g.height ≤ p.y → None ≡ index_at g p
  unfolding index_at
  past-rows l = rw (le-ltb p.y g.height l, and-false (ltb p.x g.width))

  pub on-map : p.x < g.width → p.y < g.height → Some (index_of g p.x p.y) ≡ index_at g p
  unfolding index_at
  on-map l m = rw (lt-ltb p.x g.width l, lt-ltb p.y g.height m)

  pub byte-on : (cs : List ℕ) (o : Option ℕ) → g.cells ≡ cs → o ≡ index_at g p → byte_of cs o ≡ cell_on g p
  unfolding cell_on
  byte-on cs o e h = ap (λ (l : List ℕ). byte_of l o) (sym e) ∙ ap (byte_of g.cells) h

-- what `get` finds at a place is the byte there
pub byte-got : (cs : List ℕ) (i : ℕ) (r : Option (Bor ℕ)) → is_some r ≡ ltb i (length cs) → unwrap_or (option_copied r) 0 ≡ get_or cs i 0
    → option_copied r ≡ byte_at cs i
byte-got cs i None e f = rw (← e)
byte-got cs i (Some x) e f = rw (← e) (ap Some f)

-- A cell of the map that has the position's column and row.
pub record CellAt (g : Grid) (p : WalkPosition) (i : ℕ) : Type 0 where
  pub on : i < size g
  pub column : column_of g i ≡ p.x
  pub row : row_of g i ≡ p.y

-- the last cell of a row is on the map
row_fits : (x y w h : ℕ) → x < w → y < h → y * w + x < w * h
row_fits x y w h l m =
    let next : y + 1 ≤ h = omega arith in
    let same : w ≤ w = omega arith in
    omega (arith, mul-le-mul next same)

module _ (g : Grid) (whole : Whole g) (p : WalkPosition) (i : ℕ) where
  found-cell : index_at g p ≡ Some i → p.x < g.width → p.y < g.height → CellAt g p i
  found-cell e l m =
      let f = on-map g p l m in
      let k : index_of g p.x p.y ≡ i = cc in
      record {
        on = omega (arith, whole, k, row_fits p.x p.y g.width g.height l m);
        column = ap (column_of g) (sym k) ∙ column-of g p.x p.y l;
        row = ap (row_of g) (sym k) ∙ row-of g p.x p.y l;
      }

  none_found : index_at g p ≡ Some i → None ≡ index_at g p → CellAt g p i
  none_found e n = cc

  -- "Off the map there is no cell": there is one exactly if a cell of the map has that column and that row
  pub index-iff : (index_at g p ≡ Some i) ↔ CellAt g p i
  index-iff = (to, from)
    where
      to : index_at g p ≡ Some i → CellAt g p i
      to e =
          by_cases (dec_lt p.x g.width)
          (λ l. by_cases (dec_lt p.y g.height) (found-cell e l) (λ m. none_found e (past-rows g p (omega arith))))
          (λ l. none_found e (past-columns g p (omega arith)))

      from : CellAt g p i → index_at g p ≡ Some i
      from c =
          let l : p.x < g.width = omega (arith, c.column, column-in g whole i c.on) in
          let m : p.y < g.height = omega (arith, c.row, row_in g whole i c.on) in
          let e : index_of g p.x p.y ≡ index_of g (column_of g i) (row_of g i) = rw (c.column, c.row) in
          sym (on-map g p l m) ∙ ap Some (e ∙ index-split g i)
