-- How many cells the areas have: each has one, and together they have the walkable cells.
use mathlib.Core.Path.{◌≡◌, refl, sym, ◌∙◌, ap}
use mathlib.Core.Logic.{by_cases}
use mathlib.Core.Bool.{Bool, true, false, ◌&&◌, ◌||◌, and-false, or-false}
use mathlib.Core.List.{List, map}
use Prim.Native.Nat.{ℕ, zero, suc, ◌+◌, ◌<◌, ◌≤◌}
use native.Mathlib.Omega.{arith}
use native.Mathlib.Decide.{dec_le, ℕ_discrete}
use borrow.Author.Tests.{lt-ltb, le-leb, lt-leb, eq-eqb, ne_eqb}
use lib.Dec.{leb, ltb, eqb}
use lib.ListN.{length, length-map}
use Rattle.lists.specs.Rows.{rows, sum}
use Rattle.lists.proofs.Rows.{sum-last}
use Rattle.order.specs.Lists.{keep, up_from}
use Rattle.order.proofs.Bools.{by-test, and_both}
use Rattle.order.proofs.Members.{get_d-mem}
use Rattle.order.proofs.Keep.{keep-none, keep-map, some-kept, split-count}
use Rattle.order.proofs.Numbers.{up_mem, map-places}
use Rattle.position.specs.declared.Span.{Span}
use Rattle.grid.specs.Cells.{Grid, size, walkable}
use Rattle.areas.specs.Areas.{area_labels, area_count, label_at, cell_count}
use Rattle.areas.proofs.Areas.{area-labels-length, labels-by-first-cell, label-at-most, each-label-occurs}

-- a label from 1 to k
abbrev up_to : ℕ → ℕ → Bool
up_to k v = ltb 0 v && leb v k

next-label : (k v : ℕ) → (up_to (suc k) v ≡ (up_to k v || eqb (suc k) v)) × (up_to k v && eqb (suc k) v ≡ false)
next-label k v =
    by_cases (ℕ_discrete v (suc k))
    (λ e.
    let p : ltb 0 v ≡ true = lt-ltb 0 v (omega arith) in
    let q : leb v k ≡ false = lt-leb v k (omega arith) in (rw (p, q, le-leb v (suc k) (omega arith), eq-eqb (suc k) v (sym e)), rw (p, q))) λ n.
    let o : eqb (suc k) v ≡ false = ne_eqb (suc k) v (λ e. n (sym e)) in
    by_cases (dec_le v k) (λ l. (rw (o, le-leb v k l, le-leb v (suc k) (omega arith)) (sym (or-false (ltb 0 v && true))), rw o (and-false (up_to k v)))) λ l.
    (rw (o, lt-leb v k (omega arith), lt-leb v (suc k) (omega arith)) (sym (or-false (ltb 0 v && false))), rw o (and-false (up_to k v)))

-- the labels from 1 to k count the cells whose label is one of them
counted : (ls : List ℕ) (k : ℕ) → sum (rows k (λ r. cell_count ls (suc r))) ≡ length (keep (up_to k) ls)
unfolding sum rows cell_count
counted ls zero = sym (ap length (keep-none (up_to 0) ls (λ v m. none v)))
  where
    none : (v : ℕ) → up_to 0 v ≡ false
    none zero = refl
    none (suc v) = rw (lt-leb (suc v) 0 (omega arith)) (and-false (ltb 0 (suc v)))
counted ls (suc k) =
    sum-last k (λ r. cell_count ls (suc r))
    ∙ (ap (λ (n : ℕ). n + cell_count ls (suc k)) (counted ls k) ∙ sym (split-count (up_to (suc k)) (up_to k) (eqb (suc k)) (next-label k) ls))

module _ (dirs : List ℕ) (g : Grid) (ss : List Span) where
  -- each area has a cell
  pub cell-count-some : (v : ℕ) → 0 < v → v ≤ area_count dirs g ss → 0 < cell_count (area_labels dirs g ss) v
  unfolding cell_count
  cell-count-some v p l =
      let w = each-label-occurs dirs g ss v p l in
      let m = get_d-mem (area_labels dirs g ss) 0 w.0 (omega (arith, w.1, area-labels-length dirs g ss)) in
      (some-kept (eqb v) (area_labels dirs g ss)).1 (label_at (area_labels dirs g ss) w.0, m, eq-eqb v (label_at (area_labels dirs g ss) w.0) (sym w.2))

  labelled : (i : ℕ) → i < size g → up_to (area_count dirs g ss) (label_at (area_labels dirs g ss) i) ≡ walkable g i
  labelled i l =
      let v = label_at (area_labels dirs g ss) i in
      by-test (walkable g i)
      (λ e. and_both (lt-ltb 0 v ((labels-by-first-cell dirs g ss).some i l e)) (le-leb v (area_count dirs g ss) (label-at-most dirs g ss i l)) ∙ sym e)
      (λ e. rw ((labels-by-first-cell dirs g ss).out i l e, e))

  -- the cells of all areas are the walkable cells
  pub cell-counts-sum : sum (rows (area_count dirs g ss) (λ r. cell_count (area_labels dirs g ss) (suc r))) ≡ length (keep (walkable g) (up_from 0 (size g)))
  cell-counts-sum =
      counted ls (area_count dirs g ss)
      ∙ (ap (λ (l : List ℕ). length (keep (up_to (area_count dirs g ss)) l)) by-cell
      ∙ (ap length kept ∙ length-map (keep (walkable g) (up_from 0 (size g))) (label_at ls)))
    where
      ls : List ℕ
      ls = area_labels dirs g ss

      by-cell : ls ≡ map (label_at ls) (up_from 0 (size g))
      by-cell = sym (map-places ls 0) ∙ ap (λ (n : ℕ). map (label_at ls) (up_from 0 n)) (area-labels-length dirs g ss)

      kept : keep (up_to (area_count dirs g ss)) (map (label_at ls) (up_from 0 (size g))) ≡ map (label_at ls) (keep (walkable g) (up_from 0 (size g)))
      kept = keep-map (label_at ls) (up_to (area_count dirs g ss)) (walkable g) (up_from 0 (size g)) (λ i m. labelled i (omega (arith, up_mem 0 (size g) m)))
