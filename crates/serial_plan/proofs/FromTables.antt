-- What the merge plan wants of its arrays, by what the tables say of a listing.
use mathlib.Core.Path.{◌≡◌, sym, ◌∙◌, ap, subst}
use mathlib.Core.Bool.{cond, ◌&&◌}
use mathlib.Core.List.{List, Memᴰ}
use Prim.Native.Nat.{ℕ, ◌<◌}
use native.Mathlib.Omega.{arith}
use lib.Dec.{eqb}
use lib.ListN.{length, get_or}
use Rattle.areas.specs.Assessments.{region_pair}
use Rattle.order.proofs.Members.{get_d-mem}
use Rattle.lists.specs.Rows.{at, rows}
use Rattle.lists.proofs.Rows.{length-rows, rows_at}
use Rattle.position.specs.declared.WalkPosition.{WalkPosition}
use Rattle.grid.specs.Cells.{Grid}
use Rattle.serial_links.specs.Held.{SpanBounded}
use Rattle.serial_links.specs.Limits.{Limits}
use Rattle.context.specs.FullPair.{full_pair}
use Rattle.context.specs.Listing.{Item}
use Rattle.serial_groups.specs.Regions.{assess_at}
use Rattle.serial_groups.specs.Links.{LinkAt, IsLink}
use Rattle.serial_groups.specs.Measuring.{passes, stays_inside}
use Rattle.serial_groups.specs.Flat.{is_flat}
use Rattle.serial_groups.specs.Tables.{Boundaries, FirstPairs, link_row, links_in, LinkTable}
use Rattle.serial_groups.proofs.Links.{link-iff}
use Rattle.serial_plan.specs.Arrays.{LinkRanks}
use Rattle.serial_plan.specs.Told.{BoundaryTables, Passed, FlatInside}
use Rattle.serial_plan.specs.Fitting.{RankedLinks}
use Rattle.serial_plan.proofs.WholeLaws.{on-mark}

module _ {l : List Item} {own bits ramps : List ℕ} (b : Boundaries l own bits ramps) where
  pub told : {dirs : List ℕ} {g : Grid} {counts lowers highers : List ℕ} → FirstPairs dirs g l counts lowers highers → {n : ℕ} → length l ≡ n
      → BoundaryTables dirs g l n own bits lowers highers
  told {dirs} {g} {lowers = lowers} p e = record {
    size = e;
    ends = λ i h. b.ends i (omega (arith, e));
    widths = λ i h. b.widths i (omega (arith, e));
    pairs = λ i h.
        let k : i < length l = omega (arith, e) in
        ap (λ (x : ℕ). region_pair x (full_pair (assess_at dirs g l i)).higher) (sym (p.lower-is i k)) ∙ ap (region_pair (at lowers i)) (sym (p.higher-is i k));
  }

  -- the links may be of any two ranks
  pub plannable : {n : ℕ} → length l ≡ n → {firsts seconds : List ℕ} {count : ℕ} → LinkRanks n firsts seconds count
      → RankedLinks n own bits firsts seconds count
  plannable e r = record {
    few = omega (arith, b.few, e);
    ranked = r;
    spans = λ i h.
        let k : i < length l = omega (arith, e) in
        subst SpanBounded (b.ends i k) (record { first = (b.bounded i k).0; second = (b.bounded i k).1 });
    widths = λ i h. let k : i < length l = omega (arith, e) in omega (arith, b.fitting i k, b.widths i k);
  }

-- links join ranks of the listing
module _ {dirs : List ℕ} {g : Grid} {anchors : List WalkPosition} {l : List Item} {regions firsts seconds : List ℕ} {count : ℕ}
    (linked : LinkTable dirs g anchors l regions firsts seconds count) where
  pub is-link : (k : ℕ) → k < count → IsLink dirs g anchors l (link_row regions firsts seconds k)
  unfolding links_in
  is-link k h = (link-iff dirs g anchors l (link_row regions firsts seconds k)).0 (subst (Memᴰ (link_row regions firsts seconds k)) linked.all member)
    where
      row : ℕ → LinkAt
      row = link_row regions firsts seconds

      member : Memᴰ (row k) (rows count row)
      member = subst (λ (x : LinkAt). Memᴰ x (rows count row)) (rows_at count row k (row 0) h)
          (get_d-mem (rows count row) (row 0) k (omega (arith, length-rows count row)))

  pub ranked : {n : ℕ} → length l ≡ n → LinkRanks n firsts seconds count
  ranked e = record {
    few = linked.most;
    first-in = λ k h. omega (arith, (is-link k h).rising, (is-link k h).below, e);
    second-in = λ k h. omega (arith, (is-link k h).below, e);
  }

-- marks of 1 and 0
module _ {limits : Limits} {dirs : List ℕ} {g : Grid} {l : List Item} {regions firsts seconds : List ℕ} where
  pub passed : {passing : List ℕ} {count : ℕ}
      → ((k : ℕ) → k < count → get_or passing k 0 ≡ cond (passes limits dirs g l (link_row regions firsts seconds k)) 1 0)
      → Passed limits dirs g l regions firsts seconds passing count
  passed f = record { each = λ k h. ap (λ (x : ℕ). eqb x 1) (f k h) ∙ on-mark (passes limits dirs g l (link_row regions firsts seconds k)) }

  pub flat-inside : {flat : List ℕ} {count : ℕ}
      → ((k : ℕ) → k < count → get_or flat k 0
      ≡ cond (stays_inside limits dirs g l (link_row regions firsts seconds k) && is_flat dirs g l (get_or regions k 0)) 1 0)
      →
      FlatInside limits dirs g l regions firsts seconds flat count
  flat-inside f = record {
    each = λ k h. ap (λ (x : ℕ). eqb x 1) (f k h)
        ∙ on-mark (stays_inside limits dirs g l (link_row regions firsts seconds k) && is_flat dirs g l (get_or regions k 0));
  }
