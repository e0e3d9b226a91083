-- The numbers of a card are u32: there are at most 2²⁰ cells, and a map's columns and rows are fewer.
use mathlib.Core.Path.{refl}
use mathlib.Core.List.{List, [], ◌∷◌, map, Memᴰ}
use Prim.Native.Nat.{ℕ, ◌+◌, ◌*◌, ◌≤◌, ◌<◌}
use native.Mathlib.Omega.{arith}
use native.Mathlib.Nat.{mod-le, div-le_self}
use lib.Dec.{eqb}
use Rattle.order.specs.Lists.{up_from}
use Rattle.order.proofs.Keep.{keep-mem, keep-length}
use Rattle.order.proofs.Numbers.{up_mem}
use Rattle.grid.specs.Cells.{Grid, elevation}
use Rattle.areas.specs.Areas.{label_at}
use Rattle.context.specs.Extremes.{least, greatest}
use Rattle.context.specs.RegionStats.{left_of, top_of}
use Rattle.context.specs.Held.{stats_after, first_cells}
use Rattle.context.proofs.Counting.{cells-most}
use Rattle.context_cards.specs.Filling.{CardFits}

least-below : (b : ℕ) (f : ℕ → ℕ) (cs : List ℕ) → ((c : ℕ) → Memᴰ c cs → f c ≤ b) → least (map f cs) ≤ b
unfolding least
least-below b f [] h = omega arith
least-below b f (c ∷ []) h = h c (Memᴰ.head refl)
least-below b f (c ∷ d ∷ cs) h = omega (arith, h c (Memᴰ.head refl))

greatest-below : (b : ℕ) (f : ℕ → ℕ) (cs : List ℕ) → ((c : ℕ) → Memᴰ c cs → f c ≤ b) → greatest (map f cs) ≤ b
unfolding greatest
greatest-below b f [] h = omega arith
greatest-below b f (c ∷ cs) h = omega (arith, h c (Memᴰ.head refl), greatest-below b f cs (λ d m. h d (Memᴰ.tail m)))

module _ (g : Grid) (ls : List ℕ) (r i : ℕ) where
  cell-before : (c : ℕ) → Memᴰ c (first_cells ls r i) → c < i
  unfolding first_cells
  cell-before c m = omega (arith, (up_mem 0 i (keep-mem (λ j. eqb r (label_at ls j)) (up_from 0 i) m).0).1)

  left-most : (c : ℕ) → Memᴰ c (first_cells ls r i) → left_of g c + 8 ≤ 8 * i + 8
  left-most c m = omega (arith, mod-le c g.width, cell-before c m)

  top-most : (c : ℕ) → Memᴰ c (first_cells ls r i) → top_of g c + 8 ≤ 8 * i + 8
  top-most c m = omega (arith, div-le_self c g.width, cell-before c m)

  pub after-fits : i ≤ 1048576 → CardFits (stats_after g (first_cells ls r i))
  unfolding stats_after
  after-fits few =
      let cs = first_cells ls r i in
      let most = cells-most ls r i in record {
        cells = omega arith;
        left = omega (arith, least-below (8 * i + 8) (left_of g) cs (λ c m. omega (arith, left-most c m)));
        top = omega (arith, least-below (8 * i + 8) (top_of g) cs (λ c m. omega (arith, top-most c m)));
        right = omega (arith, greatest-below (8 * i + 8) (λ c. left_of g c + 8) cs left-most);
        bottom = omega (arith, greatest-below (8 * i + 8) (λ c. top_of g c + 8) cs top-most);
        first = omega (arith, keep-length (λ c. eqb (elevation g c) 0) cs);
        second = omega (arith, keep-length (λ c. eqb (elevation g c) 1) cs);
        third = omega (arith, keep-length (λ c. eqb (elevation g c) 2) cs);
        fourth = omega (arith, keep-length (λ c. eqb (elevation g c) 3) cs);
      }
