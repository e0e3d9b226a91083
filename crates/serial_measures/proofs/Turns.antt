-- The pass over the cells: what a cell does to the links.
use mathlib.Core.Path.{◌≡◌, refl, sym, ◌∙◌, ap, subst}
use mathlib.Core.Logic.{by_cases}
use mathlib.Core.Bool.{false}
use mathlib.Core.List.{List, [], ◌∷◌, ◌++◌}
use Prim.Native.Nat.{ℕ, suc, ◌+◌, ◌*◌, ◌-◌, ◌/◌, ◌%◌, ◌≤◌, ◌<◌}
use native.Mathlib.Omega.{arith}
use native.Mathlib.Decide.{ℕ_discrete}
use borrow.Author.Tests.{eq-eqb, ne_eqb}
use lib.Dec.{eqb}
use lib.ListN.{get_or, set, length-set, replicate, length-replicate, get_or-replicate}
use lib.Seq.{get_or-set_same, get_or-set_other}
use Rattle.lists.specs.Rows.{at}
use Rattle.order.specs.Lists.{keep, up_from}
use Rattle.grid.specs.Cells.{Grid, Whole, size, cell_at}
use Rattle.grid.proofs.Index.{row_in}
use Rattle.areas.specs.Areas.{label_at}
use Rattle.areas.specs.Words.{word, labels_in}
use Rattle.areas.proofs.Words.{label-in}
use Rattle.serial_links.specs.Limits.{Limits}
use Rattle.serial_links.specs.HeldLink.{no_cell, link_with_cell, link_after}
use Rattle.serial_links.specs.declared.link.Link.{Link as LinkHeld}
use Rattle.serial_links.proofs.Cells.{after_none, after_next}
use Rattle.context.specs.Held.{CellRoom, NoCells, stats_with_cell, stats_after, first_cells}
use Rattle.context.specs.declared.stats.RegionStats.{RegionStats as StatsHeld}
use Rattle.context.proofs.Along.{place_of}
use Rattle.context.proofs.Counting.{after_next as stats-next, after-room, cells_in, cells_out, cells-most}
use Rattle.serial_measures.specs.Tables.{table_number, RegionNumbers}
use Rattle.serial_measures.specs.Judging.{value_in, EmptyLinks, link_now, stats_now, Running}

-- a cell of the map is in one of its rows
pub row_below : (g : Grid) {x y i : ℕ} → Whole g → y * g.width + x ≡ i → x < g.width → i < size g → y < g.height
row_below g {x} {y} {i} w e l on = omega (arith, (place_of g e l).1, row_in g w i on)

-- the links without a cell
pub fill_start : (own bits firsts seconds : List ℕ) (v : LinkHeld) → EmptyLinks own bits firsts seconds 0 (replicate 256 v)
fill_start own bits firsts seconds v = record { long = length-replicate 256 v; link-is = λ j d l. absurd (omega arith) }

pub fill-next : {own bits firsts seconds : List ℕ} {k : ℕ} {table : List LinkHeld} {v : LinkHeld} → EmptyLinks own bits firsts seconds k table → k < 256
    → v ≡ no_cell (value_in own bits (at firsts k) (at seconds k)) → EmptyLinks own bits firsts seconds (k + 1) (set table k v)
fill-next {own} {bits} {firsts} {seconds} {k} {table} {v} F b e = record {
  long = length-set table k v ∙ F.long;
  link-is = λ j d l.
      by_cases (ℕ_discrete j k)
      (λ q.
      ap (λ (z : ℕ). get_or (set table k v) z d) q
      ∙ (get_or-set_same table k v d (omega (arith, F.long)) ∙ (e ∙ ap (λ (z : ℕ). no_cell (value_in own bits (at firsts z) (at seconds z))) (sym q))))
      (λ q. get_or-set_other table k j v d q ∙ F.link-is j d (omega arith));
}

pub fill_end : {own bits firsts seconds : List ℕ} {k links : ℕ} {table : List LinkHeld} → k ≡ links → EmptyLinks own bits firsts seconds k table
    → EmptyLinks own bits firsts seconds links table
fill_end {own} {bits} {firsts} {seconds} {table = table} e F = subst (λ (z : ℕ). EmptyLinks own bits firsts seconds z table) e F

pub no_cells : (ls : List ℕ) (r : ℕ) → [] ≡ first_cells ls r 0
unfolding first_cells keep up_from
no_cells ls r = refl

module _ {limits : Limits} {own bits regions firsts seconds : List ℕ} {g : Grid} {ls : List ℕ} where
  pub pass-start : {links : ℕ} {table : List LinkHeld} {s : StatsHeld} → links ≤ 256 → EmptyLinks own bits firsts seconds links table → NoCells s
      → Running limits own bits regions firsts seconds g ls links 0 table (replicate 256 s)
  pass-start {links} {table} {s} few F S = record {
    long = F.long;
    stats-long = length-replicate 256 s;
    link-is = λ k d l.
        F.link-is k d l
        ∙ (after_none limits (value_in own bits (at firsts k) (at seconds k)) g.width
        ∙ ap (λ (cs : List ℕ). link_after limits (value_in own bits (at firsts k) (at seconds k)) g.width cs) (no_cells ls (at regions k)));
    stats-is = λ k d l. get_or-replicate 256 k s d (omega arith) ∙ (S.after g ∙ ap (λ (cs : List ℕ). stats_after g cs) (no_cells ls (at regions k)));
  }

  pub pass-end : {links i n : ℕ} {table : List LinkHeld} {stats : List StatsHeld} → i ≡ n
      → Running limits own bits regions firsts seconds g ls links i table stats
      → Running limits own bits regions firsts seconds g ls links n table stats
  pass-end {links} {table = table} {stats = stats} e R = subst (λ (z : ℕ). Running limits own bits regions firsts seconds g ls links z table stats) e R

module _ {limits : Limits} {own bits regions firsts seconds : List ℕ} {g : Grid} {work : List ℕ} {n links i : ℕ} {table : List LinkHeld}
    {stats : List StatsHeld}
    (N : RegionNumbers work n regions links) (on : i < n) (R : Running limits own bits regions firsts seconds g (labels_in work n) links i table stats)
    (v : ℕ) (number : v ≡ table_number work n (word work i)) where
  abbrev ls : List ℕ
  ls = labels_in work n

  label : label_at ls i ≡ word work i
  label = label-in work n i on

  -- a link with another number has another region
  other : (k : ℕ) → k < links → (v ≡ k + 1 → ⊥) → eqb (at regions k) (label_at ls i) ≡ false
  other k b h = ne_eqb (at regions k) (label_at ls i) (λ e. h (number ∙ (ap (λ (z : ℕ). table_number work n z) (sym (e ∙ label)) ∙ N.own k b)))

  same-cells : (k : ℕ) → k < links → (v ≡ k + 1 → ⊥) → first_cells ls (at regions k) i ≡ first_cells ls (at regions k) (i + 1)
  same-cells k b h = let s : suc i ≡ i + 1 = omega arith in sym (cells_out ls (at regions k) i (other k b h))
      ∙ ap (λ (z : ℕ). first_cells ls (at regions k) z) s

  same-link : (k : ℕ) → k < links → (v ≡ k + 1 → ⊥)
      → link_now limits own bits regions firsts seconds g ls k i ≡ link_now limits own bits regions firsts seconds g ls k (i + 1)
  same-link k b h = ap (λ (cs : List ℕ). link_after limits (value_in own bits (at firsts k) (at seconds k)) g.width cs) (same-cells k b h)

  same-stats : (k : ℕ) → k < links → (v ≡ k + 1 → ⊥)
      → stats_now limits own bits regions firsts seconds g ls k i ≡ stats_now limits own bits regions firsts seconds g ls k (i + 1)
  same-stats k b h = ap (λ (cs : List ℕ). stats_after g cs) (same-cells k b h)

  -- no link has the cell
  pub turn-out : v ≡ 0 → Running limits own bits regions firsts seconds g ls links (i + 1) table stats
  turn-out z = record {
    long = R.long;
    stats-long = R.stats-long;
    link-is = λ k d b. R.link-is k d b ∙ same-link k b (λ q. omega (arith, q, z));
    stats-is = λ k d b. R.stats-is k d b ∙ same-stats k b (λ q. omega (arith, q, z));
  }

  module _ {j : ℕ} (some : v ≡ 0 → ⊥) (e : j ≡ v - 1) where
    -- link j has it
    pub turn_on : j < links
    turn_on = omega (arith, N.within (word work i) (N.most i on), number, some, e)

    mine : at regions j ≡ word work i
    mine =
        let q : j ≡ table_number work n (word work i) - 1 = omega (arith, number, e) in
        ap (λ (z : ℕ). at regions z) q ∙ N.named (word work i) (N.most i on) (omega (arith, number, some))

    more-cells : first_cells ls (at regions j) i ++ (i ∷ []) ≡ first_cells ls (at regions j) (i + 1)
    more-cells =
        let s : suc i ≡ i + 1 = omega arith in
        sym (cells_in ls (at regions j) i (eq-eqb (at regions j) (label_at ls i) (mine ∙ sym label))) ∙ ap (λ (z : ℕ). first_cells ls (at regions j) z) s

    pub turn-room : (d : StatsHeld) → i < 4294967295 → CellRoom (get_or stats j d)
    turn-room d small =
        subst CellRoom (sym (R.stats-is j d turn_on)) (after-room g (first_cells ls (at regions j) i) (omega (arith, cells-most ls (at regions j) i, small)))

    module _ {x y : ℕ} (column : x ≡ i % g.width) (row : y ≡ i / g.width) where
      next-link : (d : LinkHeld) → link_with_cell limits (get_or table j d) x y ≡ link_now limits own bits regions firsts seconds g ls j (i + 1)
      next-link d =
          ap (λ (t : LinkHeld). link_with_cell limits t x y) (R.link-is j d turn_on)
          ∙ (ap (λ (z : ℕ). link_with_cell limits (link_now limits own bits regions firsts seconds g ls j i) z y) column
          ∙ (ap (λ (z : ℕ). link_with_cell limits (link_now limits own bits regions firsts seconds g ls j i) (i % g.width) z) row
          ∙ (after_next limits (value_in own bits (at firsts j) (at seconds j)) g.width (first_cells ls (at regions j) i) i
          ∙ ap (λ (cs : List ℕ). link_after limits (value_in own bits (at firsts j) (at seconds j)) g.width cs) more-cells)))

      next-stats : (d : StatsHeld) → stats_with_cell (get_or stats j d) x y (cell_at g i) ≡ stats_now limits own bits regions firsts seconds g ls j (i + 1)
      next-stats d =
          ap (λ (t : StatsHeld). stats_with_cell t x y (cell_at g i)) (R.stats-is j d turn_on)
          ∙ (ap (λ (z : ℕ). stats_with_cell (stats_after g (first_cells ls (at regions j) i)) z y (cell_at g i)) column
          ∙ (ap (λ (z : ℕ). stats_with_cell (stats_after g (first_cells ls (at regions j) i)) (i % g.width) z (cell_at g i)) row
          ∙ (stats-next g (first_cells ls (at regions j) i) i ∙ ap (λ (cs : List ℕ). stats_after g cs) more-cells)))

      pub turn_in : {a : LinkHeld} {b : StatsHeld} (d : LinkHeld) (f : StatsHeld) → a ≡ link_with_cell limits (get_or table j d) x y
          → b ≡ stats_with_cell (get_or stats j f) x y (cell_at g i)
          → Running limits own bits regions firsts seconds g ls links (i + 1) (set table j a) (set stats j b)
      turn_in {a} {b} d f p q = record {
        long = length-set table j a ∙ R.long;
        stats-long = length-set stats j b ∙ R.stats-long;
        link-is = λ k h l.
            by_cases (ℕ_discrete k j)
            (λ s.
            ap (λ (z : ℕ). get_or (set table j a) z h) s
            ∙ (get_or-set_same table j a h (omega (arith, R.long, N.few, turn_on))
            ∙ (p ∙ (next-link d ∙ ap (λ (z : ℕ). link_now limits own bits regions firsts seconds g ls z (i + 1)) (sym s)))))
            (λ s. get_or-set_other table j k a h s ∙ (R.link-is k h l ∙ same-link k l (λ w. s (omega (arith, w, e)))));
        stats-is = λ k h l.
            by_cases (ℕ_discrete k j)
            (λ s.
            ap (λ (z : ℕ). get_or (set stats j b) z h) s
            ∙ (get_or-set_same stats j b h (omega (arith, R.stats-long, N.few, turn_on))
            ∙ (q ∙ (next-stats f ∙ ap (λ (z : ℕ). stats_now limits own bits regions firsts seconds g ls z (i + 1)) (sym s)))))
            (λ s. get_or-set_other stats j k b h s ∙ (R.stats-is k h l ∙ same-stats k l (λ w. s (omega (arith, w, e)))));
      }
