-- A region is of one elevation exactly if one of the four occurs.
use mathlib.Core.Path.{◌≡◌, refl, sym, ◌∙◌, ap}
use mathlib.Core.Logic.{◌↔◌, by_cases}
use mathlib.Core.Bool.{Bool, true, false, cond}
use mathlib.Core.List.{List, [], ◌∷◌, Memᴰ}
use Prim.Native.Nat.{ℕ, zero, suc, ◌<◌}
use native.Mathlib.Omega.{arith}
use native.Mathlib.Decide.{dec_lt}
use borrow.Author.Tests.{ltb-true, lt-ltb}
use lib.Dec.{ltb}
use lib.ListN.{length, get_or}
use Rattle.order.specs.Lists.{keep}
use Rattle.order.proofs.Bools.{clash}
use Rattle.order.proofs.Members.{get_d-mem, mem-get_d}
use Rattle.grid.specs.Cells.{Grid, elevation}
use Rattle.order.proofs.Keep.{some-kept}
use Rattle.context.specs.RegionStats.{region_cells, region_stats, elevation_kinds, OneElevation}
use Rattle.context.proofs.RegionStats.{elevation-small, elevation-iff, elevations-length}

module _ {A : Type 0} (t : A → Bool) (d : A) where
  -- the place k alone passes the test
  record Alone (l : List A) (k : ℕ) : Type 0 where
    inside : k < length l
    passes : t (get_or l k d) ≡ true
    only : (j : ℕ) → j < length l → t (get_or l j d) ≡ true → j ≡ k

  one-alone : (l : List A) → length (keep t l) ≡ 1 → (k : ℕ) × Alone l k
  unfolding keep
  one-alone [] e = absurd (omega arith)
  one-alone (x ∷ xs) e = go (t x) refl e (one-alone xs)
    where
      first : t x ≡ true → length (keep t xs) ≡ 0 → (j : ℕ) → j < suc (length xs) → t (get_or (x ∷ xs) j d) ≡ true → j ≡ 0
      first h z zero l p = refl
      first h z (suc j) l p = absurd (omega (arith, (some-kept t xs).1 (get_or xs j d, get_d-mem xs d j (omega arith), p)))

      later : t x ≡ false → {k : ℕ} → Alone xs k → (j : ℕ) → j < suc (length xs) → t (get_or (x ∷ xs) j d) ≡ true → j ≡ suc k
      later h w zero l p = clash p h
      later h w (suc j) l p = ap suc (w.only j (omega arith) p)

      go : (s : Bool) → t x ≡ s → length (cond s (x ∷ keep t xs) (keep t xs)) ≡ 1 → (length (keep t xs) ≡ 1 → (k : ℕ) × Alone xs k) → (k : ℕ) × Alone (x ∷ xs) k
      go true h e i = (0, record { inside = omega arith; passes = h; only = first h (omega arith) })
      go false h e i = let w = i e in (suc w.0, record { inside = omega (arith, w.1.inside); passes = w.1.passes; only = later h w.1 })

  alone-one : (l : List A) (k : ℕ) → Alone l k → length (keep t l) ≡ 1
  unfolding keep
  alone-one [] k w = absurd (omega (arith, w.inside))
  alone-one (x ∷ xs) k w = go (t x) refl k w (alone-one xs)
    where
      go : (s : Bool) → t x ≡ s → (k : ℕ) → Alone (x ∷ xs) k → ((k : ℕ) → Alone xs k → length (keep t xs) ≡ 1) → length (cond s (x ∷ keep t xs) (keep t xs)) ≡ 1
      go true h k w i =
          by_cases (dec_lt 0 (length (keep t xs)))
          (λ p.
          let v = (some-kept t xs).0 p in
          let u = mem-get_d d v.1 in
          let q : t (get_or xs u.0 d) ≡ true = rw u.2 v.2 in
          absurd (omega (arith, w.only 0 (omega arith) h, w.only (suc u.0) (omega (arith, u.1)) q)))
          (λ p. omega arith)
      go false h zero w i = clash w.passes h
      go false h (suc k) w i =
          i k (record { inside = omega (arith, w.inside); passes = w.passes; only = λ j l p. omega (arith, w.only (suc j) (omega arith) p) })

module _ (g : Grid) (ls : List ℕ) (r : ℕ) where
  counts : List ℕ
  counts = (region_stats g ls r).elevation_counts

  pub one-elevation-iff : (elevation_kinds (region_stats g ls r) ≡ 1) ↔ OneElevation g ls r
  unfolding elevation_kinds counts
  one-elevation-iff = (to, from)
    where
      counted : {e : ℕ} → e < 4 → (i : ℕ) → Memᴰ i (region_cells ls r) → elevation g i ≡ e → ltb 0 (get_or counts e 0) ≡ true
      counted {e} l i m k = lt-ltb 0 (get_or counts e 0) ((elevation-iff g ls r e l).1 (i, m, k))

      found : {e : ℕ} → e < length counts → ltb 0 (get_or counts e 0) ≡ true → (i : ℕ) × Memᴰ i (region_cells ls r) × (elevation g i ≡ e)
      found {e} l h = (elevation-iff g ls r e (omega (arith, l, elevations-length g ls r))).0 (ltb-true 0 (get_or counts e 0) h)

      to : length (keep (ltb 0) counts) ≡ 1 → OneElevation g ls r
      to h =
          let w = one-alone (ltb 0) 0 counts h in
          let o = found w.1.inside w.1.passes in
          record {
            level = w.0;
            cell = o.0;
            inside = o.1;
            is = o.2;
            all = λ i m. w.1.only (elevation g i) (omega (arith, elevations-length g ls r, elevation-small g i)) (counted (elevation-small g i) i m refl);
          }

      from : OneElevation g ls r → length (keep (ltb 0) counts) ≡ 1
      from o =
          let small : o.level < 4 = omega (arith, o.is, elevation-small g o.cell) in
          alone-one (ltb 0) 0 counts o.level (record {
            inside = omega (arith, elevations-length g ls r);
            passes = counted small o.cell o.inside o.is;
            only = λ j l p. let v = found l p in sym v.2 ∙ o.all v.0 v.1;
          })
