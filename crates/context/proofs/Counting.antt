-- The laws of statistics that are counted cell by cell.
use mathlib.Core.Path.{◌≡◌, refl, sym, ◌∙◌, ap}
use mathlib.Core.Bool.{Bool, true, false, cond, ◌||◌}
use mathlib.Core.List.{List, [], ◌∷◌, ◌++◌, map, map-append, append-nil}
use Prim.Native.Nat.{ℕ, zero, suc, ◌+◌, ◌<◌, ◌≤◌, min, max}
use native.Mathlib.Omega.{arith}
use borrow.Author.Tests.{lt-ltb, ne_eqb}
use lib.Dec.{ltb, eqb}
use lib.ListN.{length, length-append, length-map}
use Rattle.std.specs.Int.{from_bool}
use Rattle.order.specs.Lists.{keep, up_from}
use Rattle.order.proofs.Keep.{keep_append, keep-length}
use Rattle.order.proofs.Numbers.{up-length, up-last}
use Rattle.grid.specs.Cells.{Grid, ramp_cell, elevation, column_of, row_of, cell_at}
use Rattle.areas.specs.Areas.{label_at}
use Rattle.context.specs.Extremes.{least, greatest}
use Rattle.context.specs.RegionStats.{left_of, top_of, region_cells, region_stats}
use Rattle.context.specs.Held.{CellRoom, one, lesser, stats_with_cell, stats_after, stats_in, first_cells}

-- a number of a flag
pub one-from : (t : Bool) → from_bool t ≡ one t
one-from true = refl
one-from false = refl

lesser-more : (n x y : ℕ) → lesser (suc n) x y ≡ min x y
lesser-more n x y = let h = ne_eqb (suc n) 0 (λ e. omega arith) in rw h

kept-first : (x : ℕ) (xs : List ℕ) → length (keep (ltb 0) (x ∷ xs)) ≡ one (ltb 0 x) + length (keep (ltb 0) xs)
unfolding keep
kept-first x xs = go (ltb 0 x)
  where
    go : (t : Bool) → length (cond t (x ∷ keep (ltb 0) xs) (keep (ltb 0) xs)) ≡ one t + length (keep (ltb 0) xs)
    go true = omega arith
    go false = omega arith

pub four-levels : (a b c d : ℕ) → one (ltb 0 a) + one (ltb 0 b) + one (ltb 0 c) + one (ltb 0 d) ≡ length (keep (ltb 0) (a ∷ b ∷ c ∷ d ∷ []))
unfolding keep
four-levels a b c d = omega (arith, kept-first a (b ∷ c ∷ d ∷ []), kept-first b (c ∷ d ∷ []), kept-first c (d ∷ []), kept-first d [])

-- one more at the end
least-last : (xs : List ℕ) (y : ℕ) → least (xs ++ (y ∷ [])) ≡ lesser (length xs) (least xs) y
unfolding least
least-last [] y = refl
least-last (x ∷ []) y = sym (lesser-more 0 x y)
least-last (x ∷ z ∷ zs) y =
    let e = least-last (z ∷ zs) y in
    rw e (omega (arith, lesser-more (length zs) (least (z ∷ zs)) y, lesser-more (suc (length zs)) (min x (least (z ∷ zs))) y))

greatest-last : (xs : List ℕ) (y : ℕ) → greatest (xs ++ (y ∷ [])) ≡ max (greatest xs) y
unfolding greatest
greatest-last [] y = omega arith
greatest-last (x ∷ xs) y = let e = greatest-last xs y in rw e (omega arith)

least-of : (f : ℕ → ℕ) (cs : List ℕ) (c : ℕ) → least (map f (cs ++ (c ∷ []))) ≡ lesser (length cs) (least (map f cs)) (f c)
least-of f cs c = ap least (map-append f cs (c ∷ [])) ∙ (least-last (map f cs) (f c) ∙ ap (λ (n : ℕ). lesser n (least (map f cs)) (f c)) (length-map cs f))

greatest-of : (f : ℕ → ℕ) (cs : List ℕ) (c : ℕ) → greatest (map f (cs ++ (c ∷ []))) ≡ max (greatest (map f cs)) (f c)
greatest-of f cs c = ap greatest (map-append f cs (c ∷ [])) ∙ greatest-last (map f cs) (f c)

pub kept-last : (t : ℕ → Bool) (cs : List ℕ) (c : ℕ) → length (keep t (cs ++ (c ∷ []))) ≡ length (keep t cs) + one (t c)
unfolding keep
kept-last t cs c = ap length (keep_append t cs (c ∷ [])) ∙ (length-append (keep t cs) (keep t (c ∷ [])) ∙ ap (λ (n : ℕ). length (keep t cs) + n) (go (t c)))
  where
    go : (s : Bool) → length (cond s (c ∷ []) []) ≡ one s
    go true = refl
    go false = refl

some-last : (n : ℕ) (b : Bool) → ltb 0 (n + one b) ≡ (ltb 0 n || b)
some-last zero true = refl
some-last zero false = refl
some-last (suc n) b = lt-ltb 0 (suc n + one b) (omega arith) ∙ sym (let e : ltb 0 (suc n) ≡ true = lt-ltb 0 (suc n) (omega arith) in rw e)

module _ (g : Grid) where
  pub after_next : (cs : List ℕ) (c : ℕ) → stats_with_cell (stats_after g cs) (column_of g c) (row_of g c) (cell_at g c) ≡ stats_after g (cs ++ (c ∷ []))
  unfolding stats_with_cell stats_after ramp_cell elevation
  after_next cs c =
      let e : length (cs ++ (c ∷ [])) ≡ length cs + 1 = length-append cs (c ∷ []) in
      let ramp : ltb 0 (length (keep (ramp_cell g) (cs ++ (c ∷ [])))) ≡ (ltb 0 (length (keep (ramp_cell g) cs)) || ramp_cell g c) =
      rw (kept-last (ramp_cell g) cs c) (some-last (length (keep (ramp_cell g) cs)) (ramp_cell g c)) in
      simp (
        e,
        least-of (left_of g) cs c,
        least-of (top_of g) cs c,
        greatest-of (λ i. left_of g i + 8) cs c,
        greatest-of (λ i. top_of g i + 8) cs c,
        ramp,
        kept-last (λ i. eqb (elevation g i) 0) cs c,
        kept-last (λ i. eqb (elevation g i) 1) cs c,
        kept-last (λ i. eqb (elevation g i) 2) cs c,
        kept-last (λ i. eqb (elevation g i) 3) cs c,
      )

  -- after all its cells they are the region's
  pub after-all : (ls : List ℕ) (r : ℕ) → stats_in (stats_after g (region_cells ls r)) ≡ region_stats g ls r
  unfolding stats_after region_stats up_from
  after-all ls r = refl

  pub after-room : (cs : List ℕ) → length cs < 4294967295 → CellRoom (stats_after g cs)
  unfolding stats_after
  after-room cs h = record {
    cells = h;
    first = omega (arith, keep-length (λ i. eqb (elevation g i) 0) cs);
    second = omega (arith, keep-length (λ i. eqb (elevation g i) 1) cs);
    third = omega (arith, keep-length (λ i. eqb (elevation g i) 2) cs);
    fourth = omega (arith, keep-length (λ i. eqb (elevation g i) 3) cs);
  }

-- the next cell has the label, or has not
pub cells_in : (ls : List ℕ) (r i : ℕ) → eqb r (label_at ls i) ≡ true → first_cells ls r (suc i) ≡ first_cells ls r i ++ (i ∷ [])
unfolding first_cells keep
cells_in ls r i h = ap (keep (λ j. eqb r (label_at ls j))) (up-last 0 i)
    ∙ (keep_append (λ j. eqb r (label_at ls j)) (up_from 0 i) ((0 + i) ∷ []) ∙ (let e : 0 + i ≡ i = omega arith in rw (e, h)))

pub cells_out : (ls : List ℕ) (r i : ℕ) → eqb r (label_at ls i) ≡ false → first_cells ls r (suc i) ≡ first_cells ls r i
unfolding first_cells keep
cells_out ls r i h =
    ap (keep (λ j. eqb r (label_at ls j))) (up-last 0 i)
    ∙ (keep_append (λ j. eqb r (label_at ls j)) (up_from 0 i) ((0 + i) ∷ [])
    ∙ (let e : 0 + i ≡ i = omega arith in rw (e, h) (append-nil (keep (λ j. eqb r (label_at ls j)) (up_from 0 i)))))

pub cells-most : (ls : List ℕ) (r i : ℕ) → length (first_cells ls r i) ≤ i
unfolding first_cells
cells-most ls r i = omega (arith, keep-length (λ j. eqb r (label_at ls j)) (up_from 0 i), up-length 0 i)

-- all cells
pub cells-all : (ls : List ℕ) (r : ℕ) → first_cells ls r (length ls) ≡ region_cells ls r
unfolding first_cells region_cells
cells-all ls r = refl
