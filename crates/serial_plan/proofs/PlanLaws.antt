-- The filled arrays are the merge plan of every listing that the tables tell of.
use mathlib.Core.Path.{◌≡◌, sym, ◌∙◌, ap, subst}
use mathlib.Core.List.{List, []}
use Prim.Native.Nat.{ℕ, ◌≤◌, ◌<◌}
use native.Mathlib.Omega.{arith}
use lib.ListN.{length}
use Rattle.order.specs.Lists.{keep}
use Rattle.lists.specs.Rows.{at, rows}
use Rattle.position.specs.declared.WalkPosition.{WalkPosition}
use Rattle.grid.specs.Cells.{Grid}
use Rattle.serial_links.specs.Limits.{Limits}
use Rattle.context.specs.Listing.{Item}
use Rattle.order.specs.Tests.{any}
use Rattle.serial_groups.specs.Links.{links}
use Rattle.serial_groups.specs.Groups.{is_joined}
use Rattle.serial_groups.specs.Serial.{serial_links}
use Rattle.serial_groups.specs.Flat.{flat_links}
use Rattle.serial_groups.specs.Tables.{links_in, LinkTable, Bridged}
use Rattle.serial_groups.specs.Plan.{merge_plan}
use Rattle.serial_plan.specs.Arrays.{LinkRanks, FirstAre}
use Rattle.serial_plan.specs.Told.{BoundaryTables, Passed, FlatInside}
use Rattle.serial_plan.specs.Into.{goes_to}
use Rattle.serial_plan.specs.Planning.{SerialPlan, FlatPlan, PlanOf}
use Rattle.serial_plan.proofs.TakenLaws.{plan-stays}
use Rattle.serial_plan.proofs.EndLaws.{serial-goes, flat_goes_lem, merged}

module _ {limits : Limits} {own bits lowers highers regions firsts seconds marks passing flat : List ℕ} {count : ℕ} where
  -- where there are links
  each_of : {dirs : List ℕ} {g : Grid} {anchors : List WalkPosition} {l : List Item} → length l ≤ 256 → 0 < length l → LinkRanks (length l) firsts seconds count
      → {serial other into : List ℕ} →
      SerialPlan limits (length l) own bits lowers highers regions firsts seconds count marks passing serial
      → FlatPlan limits (length l) own bits lowers highers regions firsts seconds count flat serial other →
      FirstAre (λ i. goes_to (at serial i) (at other i) i) (length l) into →
      BoundaryTables dirs g l (length l) own bits lowers highers → LinkTable dirs g anchors l regions firsts seconds count → Bridged dirs g l marks
      → Passed limits dirs g l regions firsts seconds passing count →
      FlatInside limits dirs g l regions firsts seconds flat count → (i : ℕ) → i < length l → at into i ≡ merge_plan limits dirs g anchors l i
  each_of few some ranked {serial} {other} s f p told linked bridged passed inner i h =
      let a = serial-goes limits few told linked ranked bridged passed s.selected s.parted s.goes some in
      let b = flat_goes_lem limits few told linked ranked serial inner a f.selected f.parted f.goes in
      p.each i h ∙ merged limits few told linked ranked serial other a b i h

  pub plan-of : {n : ℕ} → n ≤ 256 → 0 < n → LinkRanks n firsts seconds count → {serial other into : List ℕ} →
      SerialPlan limits n own bits lowers highers regions firsts seconds count marks passing serial
      → FlatPlan limits n own bits lowers highers regions firsts seconds count flat serial other →
      FirstAre (λ i. goes_to (at serial i) (at other i) i) n into → PlanOf limits n own bits lowers highers regions firsts seconds count marks passing flat into
  plan-of {n} few some ranked {serial} {other} {into} s f p = record {
    whole = p.size;
    each = λ dirs g anchors l told linked bridged passed inner.
        subst (λ (m : ℕ). m ≤ 256 → 0 < m → LinkRanks m firsts seconds count
        → SerialPlan limits m own bits lowers highers regions firsts seconds count marks passing serial →
        FlatPlan limits m own bits lowers highers regions firsts seconds count flat serial other → FirstAre (λ i. goes_to (at serial i) (at other i) i) m into
        → BoundaryTables dirs g l m own bits lowers highers →
        (i : ℕ) → i < m → at into i ≡ merge_plan limits dirs g anchors l i) told.size
        (λ a b c u v w t. each_of a b c u v w t linked bridged passed inner) few some ranked s f p told;
  }

-- without links every rank stays
unlinked : {dirs : List ℕ} {g : Grid} {anchors : List WalkPosition} {l : List Item} {regions firsts seconds : List ℕ} {count : ℕ}
    → LinkTable dirs g anchors l regions firsts seconds count → count ≡ 0 → links dirs g anchors l ≡ []
unfolding links_in rows
unlinked {regions = regions} {firsts} {seconds} linked e = sym linked.all ∙ ap (links_in regions firsts seconds) e

stays : (limits : Limits) (dirs : List ℕ) (g : Grid) (anchors : List WalkPosition) (l : List Item) → links dirs g anchors l ≡ [] → (i : ℕ)
    → merge_plan limits dirs g anchors l i ≡ i
unfolding serial_links flat_links keep is_joined any
stays limits dirs g anchors l e i = plan-stays limits dirs g anchors l i (rw e) (rw e)

pub plan-unlinked : {limits : Limits} {own bits lowers highers regions firsts seconds marks passing flat into : List ℕ} → FirstAre (λ i. i) 256 into
    → {n count : ℕ} → n ≤ 256 → count ≡ 0 → PlanOf limits n own bits lowers highers regions firsts seconds count marks passing flat into
plan-unlinked {limits} p few e = record {
  whole = p.size;
  each = λ dirs g anchors l told linked bridged passed inner i h. p.each i (omega arith) ∙ sym (stays limits dirs g anchors l (unlinked linked e) i);
}
