-- What is judged of each link by the pass is what the rules say of it.
use mathlib.Core.Path.{◌≡◌, sym, ◌∙◌, ap, subst}
use mathlib.Core.Logic.{by_cases}
use mathlib.Core.Bool.{Bool, cond, not, ◌&&◌}
use mathlib.Core.List.{List}
use Prim.Native.Nat.{ℕ, ◌+◌, ◌≤◌, ◌<◌}
use native.Mathlib.Omega.{arith}
use native.Mathlib.Decide.{ℕ_discrete}
use lib.Dec.{eqb}
use lib.ListN.{length, get_or, set, length-set, replicate, length-replicate}
use lib.Seq.{get_or-set_same, get_or-set_other}
use Rattle.lists.specs.Rows.{at}
use Rattle.position.specs.declared.Span.{Span}
use Rattle.grid.specs.Cells.{Grid}
use Rattle.areas.specs.Spans.{span_in}
use Rattle.serial_links.specs.Limits.{Limits}
use Rattle.serial_links.specs.Link.{Link, link_of}
use Rattle.serial_links.specs.Measure.{Measured as Measure, measured, passing}
use Rattle.serial_links.specs.Flat.{inside_flat}
use Rattle.serial_links.specs.HeldLink.{side, link_after, measured_in}
use Rattle.serial_links.specs.declared.link.Link.{Link as LinkHeld}
use Rattle.serial_links.proofs.Cells.{after-measured}
use Rattle.context.specs.RegionStats.{RegionStats, region_cells, region_stats, elevation_kinds}
use Rattle.context.specs.Held.{stats_in, stats_after, first_cells}
use Rattle.context.specs.declared.stats.RegionStats.{RegionStats as StatsHeld}
use Rattle.context.specs.Listing.{Item}
use Rattle.context.proofs.Counting.{after-all, cells-all}
use Rattle.serial_groups.specs.Listing.{ends_at, bits_at}
use Rattle.serial_groups.specs.Regions.{region_labels, cells_of, stats_of}
use Rattle.serial_groups.specs.Measuring.{value_of, measured_at, passes, stays_inside}
use Rattle.serial_groups.specs.Flat.{is_flat}
use Rattle.serial_groups.specs.Tables.{Boundaries, link_row}
use Rattle.serial_measures.specs.Judging.{value_in, flat_in, link_now, stats_now, Running, Judged, Measured}

module _ {limits : Limits} {own bits regions firsts seconds : List ℕ} {g : Grid} {ls : List ℕ} where
  pub judge-start : (n : ℕ) → Judged limits own bits regions firsts seconds g ls n 0 (replicate 256 0) (replicate 256 0) (replicate 256 0)
  judge-start n = record {
    long = length-replicate {A = ℕ} 256 0;
    flat-long = length-replicate {A = ℕ} 256 0;
    inside-long = length-replicate {A = ℕ} 256 0;
    passing-is = λ j l. absurd (omega arith);
    flat-is = λ j l. absurd (omega arith);
    inside_is = λ j l. absurd (omega arith);
  }

  -- link k by its marks
  pub judge-next : {n k : ℕ} {ps fs is : List ℕ} {p f i : ℕ} → k < 256 → Judged limits own bits regions firsts seconds g ls n k ps fs is
      → p ≡ cond (passing (measured_in limits (link_now limits own bits regions firsts seconds g ls k n))) 1 0
      → f ≡ cond (flat_in (link_now limits own bits regions firsts seconds g ls k n) (stats_now limits own bits regions firsts seconds g ls k n)) 1 0
      → i ≡ cond (link_now limits own bits regions firsts seconds g ls k n).inside 1 0
      → Judged limits own bits regions firsts seconds g ls n (k + 1) (set ps k p) (set fs k f) (set is k i)
  judge-next {n} {k} {ps} {fs} {is} {p} {f} {i} l J u v w = record {
    long = length-set ps k p ∙ J.long;
    flat-long = length-set fs k f ∙ J.flat-long;
    inside-long = length-set is k i ∙ J.inside-long;
    passing-is = λ j b.
        by_cases (ℕ_discrete j k)
        (λ q.
        ap (λ (z : ℕ). at (set ps k p) z) q
        ∙ (get_or-set_same ps k p 0 (omega (arith, J.long))
        ∙ (u ∙ ap (λ (z : ℕ). cond (passing (measured_in limits (link_now limits own bits regions firsts seconds g ls z n))) 1 0) (sym q))))
        (λ q. get_or-set_other ps k j p 0 q ∙ J.passing-is j (omega arith));
    flat-is = λ j b.
        by_cases (ℕ_discrete j k)
        (λ q.
        ap (λ (z : ℕ). at (set fs k f) z) q
        ∙ (get_or-set_same fs k f 0 (omega (arith, J.flat-long))
        ∙ (v ∙ ap (λ (z : ℕ). cond (flat_in (link_now limits own bits regions firsts seconds g ls z n)
        (stats_now limits own bits regions firsts seconds g ls z n))
        1 0) (sym q))))
        (λ q. get_or-set_other fs k j f 0 q ∙ J.flat-is j (omega arith));
    inside_is = λ j b.
        by_cases (ℕ_discrete j k)
        (λ q.
        ap (λ (z : ℕ). at (set is k i) z) q
        ∙ (get_or-set_same is k i 0 (omega (arith, J.inside-long))
        ∙ (w ∙ ap (λ (z : ℕ). cond (link_now limits own bits regions firsts seconds g ls z n).inside 1 0) (sym q))))
        (λ q. get_or-set_other is k j i 0 q ∙ J.inside_is j (omega arith));
  }

  -- from tables of links and statistics
  pub judge-row : {n k links : ℕ} {table : List LinkHeld} {stats : List StatsHeld} {ps fs is : List ℕ} {p f i : ℕ} (d e c : LinkHeld) (h : StatsHeld)
      → links ≤ 256
      → k < links
      → Running limits own bits regions firsts seconds g ls links n table stats → Judged limits own bits regions firsts seconds g ls n k ps fs is
      → p ≡ cond (passing (measured_in limits (get_or table k d))) 1 0 → f ≡ cond (flat_in (get_or table k e) (get_or stats k h)) 1 0
      → i ≡ cond (get_or table k c).inside 1 0
      → Judged limits own bits regions firsts seconds g ls n (k + 1) (set ps k p) (set fs k f) (set is k i)
  judge-row {n} {k} {stats = stats} d e c h few l R J u v w =
      judge-next (omega arith) J (u ∙ ap (λ (t : LinkHeld). cond (passing (measured_in limits t)) 1 0) (R.link-is k d l))
      (v
      ∙ (ap (λ (t : LinkHeld). cond (flat_in t (get_or stats k h)) 1 0) (R.link-is k e l)
      ∙ ap (λ (t : StatsHeld). cond (flat_in (link_now limits own bits regions firsts seconds g ls k n) t) 1 0) (R.stats-is k h l)))
      (w ∙ ap (λ (t : LinkHeld). cond t.inside 1 0) (R.link-is k c l))

  -- from a link and statistics that are by themselves
  pub judge-one : {n k : ℕ} {ps fs is : List ℕ} {p f i : ℕ} {r : LinkHeld} {s : StatsHeld} → length ls ≡ n → k < 256
      → Judged limits own bits regions firsts seconds g ls n k ps fs is
      → r ≡ link_now limits own bits regions firsts seconds g ls k n → stats_in s ≡ region_stats g ls (at regions k)
      → p ≡ cond (passing (measured_in limits r)) 1 0 → f ≡ cond (flat_in r s) 1 0 → i ≡ cond r.inside 1 0
      → Judged limits own bits regions firsts seconds g ls n (k + 1) (set ps k p) (set fs k f) (set is k i)
  judge-one {n} {k} {r = r} many l J e q u v w =
      judge-next l J (u ∙ ap (λ (t : LinkHeld). cond (passing (measured_in limits t)) 1 0) e)
      (v
      ∙ (ap (λ (t : RegionStats). cond (r.inside && (not t.has_ramp && eqb (elevation_kinds t) 1)) 1 0)
      (q ∙ sym (ap (λ (cs : List ℕ). stats_in (stats_after g cs)) (ap (λ (z : ℕ). first_cells ls (at regions k) z) (sym many) ∙ cells-all ls (at regions k))
      ∙ after-all g ls (at regions k)))
      ∙ ap (λ (t : LinkHeld). cond (flat_in t (stats_now limits own bits regions firsts seconds g ls k n)) 1 0) e))
      (w ∙ ap (λ (t : LinkHeld). cond t.inside 1 0) e)

  pub judge-end : {n k links : ℕ} {ps fs is : List ℕ} → k ≡ links → Judged limits own bits regions firsts seconds g ls n k ps fs is
      → Judged limits own bits regions firsts seconds g ls n links ps fs is
  judge-end {n} {ps = ps} {fs = fs} {is = is} e J = subst (λ (z : ℕ). Judged limits own bits regions firsts seconds g ls n z ps fs is) e J

  module _ {n links : ℕ} {ps fs is : List ℕ} (many : length ls ≡ n) (J : Judged limits own bits regions firsts seconds g ls n links ps fs is)
      (dirs : List ℕ) (l : List Item) (ramps : List ℕ) (B : Boundaries l own bits ramps) (labels : ls ≡ region_labels dirs g l) (k : ℕ) (b : k < links)
      (first : at firsts k < length l) (second : at seconds k < length l) where
    value : value_in own bits (at firsts k) (at seconds k) ≡ value_of l (link_row regions firsts seconds k)
    value =
        ap (λ (s : Span). link_of (side s (at bits (at firsts k))) (side (span_in own (at seconds k)) (at bits (at seconds k))))
        (sym (B.ends (at firsts k) first))
        ∙ (ap (λ (z : ℕ). link_of (side (ends_at l (at firsts k)) z) (side (span_in own (at seconds k)) (at bits (at seconds k))))
        (sym (B.widths (at firsts k) first))
        ∙ (ap (λ (s : Span). link_of (side (ends_at l (at firsts k)) (bits_at l (at firsts k))) (side s (at bits (at seconds k))))
        (sym (B.ends (at seconds k) second))
        ∙ ap (λ (z : ℕ). link_of (side (ends_at l (at firsts k)) (bits_at l (at firsts k))) (side (ends_at l (at seconds k)) z))
        (sym (B.widths (at seconds k) second))))

    all : first_cells ls (at regions k) n ≡ region_cells ls (at regions k)
    all = ap (λ (z : ℕ). first_cells ls (at regions k) z) (sym many) ∙ cells-all ls (at regions k)

    cells : first_cells ls (at regions k) n ≡ cells_of dirs g l (at regions k)
    unfolding cells_of
    cells = all ∙ ap (λ (t : List ℕ). region_cells t (at regions k)) labels

    stats : stats_in (stats_now limits own bits regions firsts seconds g ls k n) ≡ stats_of dirs g l (at regions k)
    unfolding stats_of
    stats =
        ap (λ (cs : List ℕ). stats_in (stats_after g cs)) all ∙ (after-all g ls (at regions k) ∙ ap (λ (t : List ℕ). region_stats g t (at regions k)) labels)

    measure : measured_in limits (link_now limits own bits regions firsts seconds g ls k n) ≡ measured_at limits dirs g l (link_row regions firsts seconds k)
    unfolding measured_at
    measure =
        after-measured limits (value_in own bits (at firsts k) (at seconds k)) g.width (first_cells ls (at regions k) n)
        ∙ (ap (λ (t : Link). measured limits t g.width (first_cells ls (at regions k) n)) value
        ∙ ap (λ (cs : List ℕ). measured limits (value_of l (link_row regions firsts seconds k)) g.width cs) cells)

    inside : (link_now limits own bits regions firsts seconds g ls k n).inside ≡ stays_inside limits dirs g l (link_row regions firsts seconds k)
    unfolding link_after stays_inside
    inside =
        ap (λ (t : Link). inside_flat limits t g.width (first_cells ls (at regions k) n)) value
        ∙ ap (λ (cs : List ℕ). inside_flat limits (value_of l (link_row regions firsts seconds k)) g.width cs) cells

    flat : (not (stats_now limits own bits regions firsts seconds g ls k n).has_ramp && eqb
        (elevation_kinds (stats_in (stats_now limits own bits regions firsts seconds g ls k n))) 1) ≡ is_flat dirs g l (at regions k)
    unfolding is_flat
    flat = ap (λ (t : RegionStats). not t.has_ramp && eqb (elevation_kinds t) 1) stats

    passing-right : at ps k ≡ cond (passes limits dirs g l (link_row regions firsts seconds k)) 1 0
    unfolding passes
    passing-right = J.passing-is k b ∙ ap (λ (t : Measure). cond (passing t) 1 0) measure

    flat-right : at fs k ≡ cond (stays_inside limits dirs g l (link_row regions firsts seconds k) && is_flat dirs g l (at regions k)) 1 0
    flat-right =
        J.flat-is k b
        ∙ (ap (λ (t : Bool). cond
        (t && (not (stats_now limits own bits regions firsts seconds g ls k n).has_ramp && eqb
        (elevation_kinds (stats_in (stats_now limits own bits regions firsts seconds g ls k n))) 1)) 1 0) inside
        ∙ ap (λ (t : Bool). cond (stays_inside limits dirs g l (link_row regions firsts seconds k) && t) 1 0) flat)

    inside-right : at is k ≡ cond (stays_inside limits dirs g l (link_row regions firsts seconds k)) 1 0
    inside-right = J.inside_is k b ∙ ap (λ (t : Bool). cond t 1 0) inside

  pub judged-measured : {n links : ℕ} {ps fs is : List ℕ} → length ls ≡ n → Judged limits own bits regions firsts seconds g ls n links ps fs is
      → Measured limits own bits regions firsts seconds g ls links ps fs is
  judged-measured many J = record {
    passing-is = λ dirs l ramps B labels k b first second. passing-right many J dirs l ramps B labels k b first second;
    flat-is = λ dirs l ramps B labels k b first second. flat-right many J dirs l ramps B labels k b first second;
    inside_is = λ dirs l ramps B labels k b first second. inside-right many J dirs l ramps B labels k b first second;
  }

-- nothing is to be said of no links
pub none-measured : {limits : Limits} {own bits regions firsts seconds : List ℕ} {g : Grid} {ls : List ℕ} {links : ℕ} {ps fs is : List ℕ} → links ≡ 0
    → Measured limits own bits regions firsts seconds g ls links ps fs is
none-measured e = record {
  passing-is = λ dirs l ramps B labels k b first second. absurd (omega (arith, b));
  flat-is = λ dirs l ramps B labels k b first second. absurd (omega (arith, b));
  inside_is = λ dirs l ramps B labels k b first second. absurd (omega (arith, b));
}

-- by labels that are the same
pub measured-by : {limits : Limits} {own bits regions firsts seconds : List ℕ} {g : Grid} {ls ms : List ℕ} {n links : ℕ} {ps fs is : List ℕ} → length ms ≡ n
    → ls ≡ ms
    → Judged limits own bits regions firsts seconds g ls n links ps fs is → Measured limits own bits regions firsts seconds g ms links ps fs is
measured-by {limits} {own} {bits} {regions} {firsts} {seconds} {g} {n = n} {links = links} {ps = ps} {fs = fs} {is = is} many e judged =
    judged-measured many (subst (λ (z : List ℕ). Judged limits own bits regions firsts seconds g z n links ps fs is) e judged)
