-- What the statistics of a region say of its cells.
use mathlib.Core.Path.{◌≡◌, refl, sym, ◌∙◌, ap}
use mathlib.Core.Logic.{◌↔◌}
use mathlib.Core.Bool.{Bool, true, cond}
use mathlib.Core.List.Memᴰ
use mathlib.Core.List.{List, [], ◌∷◌, map, Memᴰ}
use Prim.Native.Nat.{ℕ, zero, suc, ◌+◌, ◌<◌, ◌≤◌}
use native.Mathlib.Omega.{arith}
use borrow.Author.Tests.{eqb-true, eq-eqb, ne_eqb, ltb-true, lt-ltb}
use lib.Dec.{eqb}
use lib.ListN.{length, get_or, length-map}
use Rattle.lists.specs.Rows.{sum}
use Rattle.order.specs.Lists.{keep, up_from}
use Rattle.order.proofs.Keep.{keep-mem, mem-keep, keep-none, keep-map, some-kept}
use Rattle.order.proofs.Numbers.{up_mem, mem_up, map-places, map-up-at}
use Rattle.grid.specs.Cells.{Grid, ramp_cell, elevation}
use Rattle.areas.specs.Areas.{label_at, cell_count}
use Rattle.context.specs.Extremes.{least, greatest}
use Rattle.context.specs.RegionStats.{RegionStats, region_cells, left_of, top_of, region_stats, no_stats}
use Rattle.context.proofs.Extremes.{least-le, least-mem, le-greatest, greatest-mem}

-- the region's cells are those with its label
pub region-cells-iff : (ls : List ℕ) (r i : ℕ) → Memᴰ i (region_cells ls r) ↔ ((i < length ls) × (label_at ls i ≡ r))
unfolding region_cells
region-cells-iff ls r i = (
  λ m. let k = keep-mem (λ j. eqb r (label_at ls j)) (up_from 0 (length ls)) m in
      (omega (arith, up_mem 0 (length ls) k.0), sym (eqb-true r (label_at ls i) k.1)),
  λ p. mem-keep (λ j. eqb r (label_at ls j)) (mem_up 0 (length ls) i (omega arith) (omega (arith, p.0))) (eq-eqb r (label_at ls i) (sym p.1)),
)

-- the least and the greatest of what a function gives are given
least_at : (f : ℕ → ℕ) (cs : List ℕ) {i : ℕ} → Memᴰ i cs → (j : ℕ) × Memᴰ j cs × (f j ≡ least (map f cs))
least_at f [] {i = i} m = elim m [ ]
least_at f (c ∷ cs) m = Memᴰ.of_map f (c ∷ cs) (least-mem (f c) (map f cs))

greatest-at : (f : ℕ → ℕ) (cs : List ℕ) {i : ℕ} → Memᴰ i cs → (j : ℕ) × Memᴰ j cs × (f j ≡ greatest (map f cs))
greatest-at f [] {i = i} m = elim m [ ]
greatest-at f (c ∷ cs) m = Memᴰ.of_map f (c ∷ cs) (greatest-mem (f c) (map f cs))

pub elevation-small : (g : Grid) (i : ℕ) → elevation g i < 4
unfolding elevation
elevation-small g i = omega arith

-- the members with each of the four values are all the members
four-values : (f : ℕ → ℕ) → ((i : ℕ) → f i < 4) → (l : List ℕ) → sum (map (λ e. length (keep (λ i. eqb (f i) e) l)) (up_from 0 4)) ≡ length l
unfolding keep sum up_from
four-values f h [] = refl
four-values f h (x ∷ xs) = go (f x) (h x) (kept 0) (kept 1) (kept 2) (kept 3) (four-values f h xs)
  where
    kept : ℕ → List ℕ
    kept e = keep (λ i. eqb (f i) e) xs

    go : (v : ℕ) → v < 4 → (a b c d : List ℕ) → length a + (length b + (length c + (length d + 0))) ≡ length xs →
        length (cond (eqb v 0) (x ∷ a) a) + (length (cond (eqb v 1) (x ∷ b) b) + (length (cond (eqb v 2) (x ∷ c) c) + (length (cond (eqb v 3) (x ∷ d) d) + 0)))
        ≡ suc (length xs)
    go zero l a b c d e = omega arith
    go (suc zero) l a b c d e = omega arith
    go (suc (suc zero)) l a b c d e = omega arith
    go (suc (suc (suc zero))) l a b c d e = omega arith
    go (suc (suc (suc (suc v)))) l a b c d e = absurd (omega arith)

module _ (g : Grid) (ls : List ℕ) (r : ℕ) where
  pub stats-cells : (region_stats g ls r).cells ≡ cell_count ls r
  unfolding region_stats cell_count
  stats-cells =
      sym (ap (λ (l : List ℕ). length (keep (eqb r) l)) (sym (map-places ls 0))
      ∙ (ap length (keep-map (label_at ls) (eqb r) (λ i. eqb r (label_at ls i)) (up_from 0 (length ls)) (λ i m. refl))
      ∙ length-map (region_cells ls r) (label_at ls)))

  -- the box holds each cell of the region
  pub in-box : (i : ℕ) → Memᴰ i (region_cells ls r) → let s = region_stats g ls r in
      (s.min_x ≤ left_of g i) × (s.min_y ≤ top_of g i) × (left_of g i + 8 ≤ s.max_x) × (top_of g i + 8 ≤ s.max_y)
  unfolding region_stats
  in-box i m = (
    least-le (map (left_of g) (region_cells ls r)) (Memᴰ.map (left_of g) m),
    least-le (map (top_of g) (region_cells ls r)) (Memᴰ.map (top_of g) m),
    le-greatest (map (λ j. left_of g j + 8) (region_cells ls r)) (Memᴰ.map (λ j. left_of g j + 8) m),
    le-greatest (map (λ j. top_of g j + 8) (region_cells ls r)) (Memᴰ.map (λ j. top_of g j + 8) m),
  )

  -- and each of its edges touches one
  abbrev pub Touches : (ℕ → ℕ) → ℕ → Type 0
  Touches f v = (j : ℕ) × Memᴰ j (region_cells ls r) × (f j ≡ v)

  pub box-tight : (i : ℕ) → Memᴰ i (region_cells ls r) → let s = region_stats g ls r in
      Touches (left_of g) s.min_x × Touches (top_of g) s.min_y × Touches (λ j. left_of g j + 8) s.max_x × Touches (λ j. top_of g j + 8) s.max_y
  unfolding region_stats
  box-tight i m = (
    least_at (left_of g) (region_cells ls r) m,
    least_at (top_of g) (region_cells ls r) m,
    greatest-at (λ j. left_of g j + 8) (region_cells ls r) m,
    greatest-at (λ j. top_of g j + 8) (region_cells ls r) m,
  )

  -- there is a ramp exactly if some cell of the region is one
  pub ramp-iff : ((region_stats g ls r).has_ramp ≡ true) ↔ ((i : ℕ) × Memᴰ i (region_cells ls r) × (ramp_cell g i ≡ true))
  unfolding region_stats
  ramp-iff = (
    λ h. (some-kept (ramp_cell g) (region_cells ls r)).0 (ltb-true 0 (length (keep (ramp_cell g) (region_cells ls r))) h),
    λ w. lt-ltb 0 (length (keep (ramp_cell g) (region_cells ls r))) ((some-kept (ramp_cell g) (region_cells ls r)).1 w),
  )

  -- an elevation is counted exactly if some cell of the region has it
  pub elevation-iff : (e : ℕ) → e < 4 → (0 < get_or (region_stats g ls r).elevation_counts e 0) ↔ ((i : ℕ) × Memᴰ i (region_cells ls r) × (elevation g i ≡ e))
  unfolding region_stats
  elevation-iff e l = (
    λ h. let w = (some-kept at (region_cells ls r)).0 (omega (arith, counted)) in (w.0, w.1, eqb-true (elevation g w.0) e w.2),
    λ w. omega (arith, counted, (some-kept at (region_cells ls r)).1 (w.0, w.1, eq-eqb (elevation g w.0) e w.2)),
  )
    where
      at : ℕ → Bool
      at i = eqb (elevation g i) e

      counted : get_or (region_stats g ls r).elevation_counts e 0 ≡ length (keep at (region_cells ls r))
      counted =
          map-up-at (λ v. length (keep (λ i. eqb (elevation g i) v) (region_cells ls r))) 0 4 e 0 l
          ∙ ap (λ v. length (keep (λ i. eqb (elevation g i) v) (region_cells ls r))) (let z : 0 + e ≡ e = omega arith in z)

  pub elevations-length : length (region_stats g ls r).elevation_counts ≡ 4
  unfolding region_stats
  elevations-length = refl

  pub elevations-sum : sum (region_stats g ls r).elevation_counts ≡ (region_stats g ls r).cells
  unfolding region_stats
  elevations-sum = four-values (elevation g) (elevation-small g) (region_cells ls r)

  -- a label that no cell has
  pub no_cells : ((i : ℕ) → i < length ls → label_at ls i ≡ r → ⊥) → region_stats g ls r ≡ no_stats
  unfolding region_stats
  no_cells h = rw none
    where
      none : region_cells ls r ≡ []
      none = keep-none (λ i. eqb r (label_at ls i)) (up_from 0 (length ls))
          (λ i m. ne_eqb r (label_at ls i) (λ e. h i (omega (arith, up_mem 0 (length ls) m)) (sym e)))

  -- and only of such a label are no cells counted
  pub empty-iff : ((region_stats g ls r).cells ≡ 0) ↔ ((i : ℕ) → i < length ls → label_at ls i ≡ r → ⊥)
  unfolding region_stats
  empty-iff = (
    λ e i l k.
        omega (
          arith,
          (some-kept (λ j. eqb r (label_at ls j)) (up_from 0 (length ls))).1
              (i, mem_up 0 (length ls) i (omega arith) (omega (arith, l)), eq-eqb r (label_at ls i) (sym k)),
        ),
    λ h. ap (λ (s : RegionStats). s.cells) (no_cells h),
  )
