-- A pass over the cells that takes in those of one region.
use mathlib.Core.Path.{◌≡◌, sym, ◌∙◌, ap}
use mathlib.Core.Bool.{Bool, true, false, cond, not}
use mathlib.Core.List.{List, [], ◌∷◌, ◌++◌}
use Prim.Native.Nat.{ℕ, ◌+◌, ◌/◌, ◌%◌, ◌<◌}
use native.Mathlib.Omega.{arith}
use native.Mathlib.Numerals.{add-one}
use native.Mathlib.Nat.{mod-le, div-le_self}
use borrow.Author.Tests.{not-true, not-false}
use lib.Dec.{eqb}
use Rattle.order.specs.Lists.{keep, up_from}
use Rattle.order.proofs.Bools.{by-test}
use Rattle.grid.specs.Cells.{Grid, column_of, row_of, cell_at}
use Rattle.areas.specs.Areas.{label_at}
use Rattle.areas.specs.Words.{word, labels_in}
use Rattle.areas.proofs.Words.{labels-many, label-in}
use Rattle.context.specs.RegionStats.{region_stats}
use Rattle.context.specs.Held.{CellRoom, stats_with_cell, stats_after, stats_in, first_cells, NoCells}
use Rattle.context.specs.declared.stats.RegionStats.{RegionStats as StatsHeld}
use Rattle.context.proofs.Counting.{after_next, after-all, after-room, cells_in, cells_out, cells-most, cells-all}

pub column-small : (i w : ℕ) → i < 1048576 → i % w < 1048576
column-small i w h = omega (arith, mod-le i w)

pub row_small : (i w : ℕ) → i < 1048576 → i / w < 1048576
row_small i w h = omega (arith, div-le_self i w)

pub left_out : {A : Type 0} (t : Bool) {s : A} (x : A) → not t ≡ true → s ≡ cond t x s
left_out t x h = let e = not-true t h in rw e

pub put_in : {A : Type 0} (t : Bool) (with : ℕ → ℕ → A) (s : A) {x : A} {a b : ℕ} (column row : ℕ) → not t ≡ false → x ≡ with a b → a ≡ column → b ≡ row
    → x ≡ cond t (with column row) s
put_in t with s {x} {a} {b} column row h e p q = let k = not-false t h in rw k (e ∙ (ap (λ (y : ℕ). with y b) p ∙ ap (λ (y : ℕ). with column y) q))

pub count-start : {s : StatsHeld} → NoCells s → (g : Grid) (ls : List ℕ) (r : ℕ) → s ≡ stats_after g (first_cells ls r 0)
unfolding first_cells keep up_from
count-start h g ls r = h.after g

-- what some cells come to, after those of the region among the first i, and after one cell more
pub pass-next : {A : Type 0} (after : List ℕ → A) (bytes : List ℕ) (n r : ℕ) {i : ℕ} {s : A} → s ≡ after (first_cells (labels_in bytes n) r i)
    → i < n → {v : ℕ} → v ≡ word bytes i → {more : A} → ((cs : List ℕ) → s ≡ after cs → more ≡ after (cs ++ (i ∷ []))) → {t : A} → t ≡ cond (eqb r v) more s
    → t ≡ after (first_cells (labels_in bytes n) r (i + 1))
pass-next {A} after bytes n r {i} {s} now l {v} e {more} step {t} f =
    rw add-one
    (by-test (eqb r v)
    (λ h. f ∙ (rw h (step (first_cells ls r i) now ∙ ap after (sym (cells_in ls r i (same ∙ h))))))
    (λ h. f ∙ (rw h (now ∙ ap after (sym (cells_out ls r i (same ∙ h)))))))
  where
    ls : List ℕ
    ls = labels_in bytes n

    same : eqb r (label_at ls i) ≡ eqb r v
    same = ap (eqb r) (label-in bytes n i l ∙ sym e)

module _ (g : Grid) (bytes : List ℕ) (n r : ℕ) {i : ℕ} {s : StatsHeld} (now : s ≡ stats_after g (first_cells (labels_in bytes n) r i)) where
  pub count_room : i < 1048576 → CellRoom s
  count_room h = rw now (after-room g (first_cells (labels_in bytes n) r i) (omega (arith, cells-most (labels_in bytes n) r i)))

  pub count_next : i < n → {v : ℕ} → v ≡ word bytes i → {t : StatsHeld} → t ≡ cond (eqb r v) (stats_with_cell s (column_of g i) (row_of g i) (cell_at g i)) s
      → t ≡ stats_after g (first_cells (labels_in bytes n) r (i + 1))
  count_next l e f =
      pass-next (stats_after g) bytes n r now l e
      (λ cs h. ap (λ (x : StatsHeld). stats_with_cell x (column_of g i) (row_of g i) (cell_at g i)) h ∙ after_next g cs i)
      f

  pub count-end : i ≡ n → stats_in s ≡ region_stats g (labels_in bytes n) r
  count-end e =
      ap stats_in (now ∙ (ap (λ (k : ℕ). stats_after g (first_cells (labels_in bytes n) r k)) (e ∙ sym (labels-many bytes n))
      ∙ ap (stats_after g) (cells-all (labels_in bytes n) r)))
      ∙ after-all g (labels_in bytes n) r
