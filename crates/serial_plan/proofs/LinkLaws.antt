-- What the links of a listing are by the arrays that hold them: different regions of the map, and ranks below the count; the owners of the records.
use mathlib.Core.Path.{◌≡◌, sym, ◌∙◌, ap, subst}
use mathlib.Core.List.{List, Memᴰ}
use Prim.Native.Nat.{ℕ, ◌<◌, ◌≤◌}
use native.Mathlib.Omega.{arith}
use borrow.Author.Tests.{ltb-true, ltb-false}
use lib.Dec.{ltb}
use lib.ListN.{length, get_or, length-map}
use Rattle.lists.proofs.Rows.{length-rows, rows_at}
use Rattle.order.proofs.Bools.{by-test}
use Rattle.order.proofs.Members.{get_d-mem}
use Rattle.order.proofs.Pairs.{pairs-at}
use Rattle.position.specs.declared.WalkPosition.{WalkPosition}
use Rattle.graph.specs.Records.{Record, record_in, no_record}
use Rattle.graph.proofs.Records.{records-length, records-at}
use Rattle.grid.specs.Cells.{Grid, size}
use Rattle.areas.specs.Assessments.{records}
use Rattle.areas.proofs.Areas.{each-label-occurs}
use Rattle.areas.proofs.Records.{records-iff}
use Rattle.areas.specs.Words.{word, labels_in}
use Rattle.areas.proofs.Words.{label-in}
use Rattle.context.specs.Listing.{Item}
use Rattle.serial_groups.specs.Listing.{no_span, spans_of}
use Rattle.serial_groups.specs.Regions.{region_labels, region_count}
use Rattle.serial_groups.specs.Links.{LinkAt, links}
use Rattle.serial_groups.specs.SimplePath.{no_link}
use Rattle.serial_groups.specs.Tables.{Paired, link_row, links_in, LinkTable}
use Rattle.serial_groups.proofs.Links.{links-rising}
use Rattle.serial_candidates.specs.Owners.{OwnersBelow}
use Rattle.serial_measures.specs.Tables.{LinkRegions, Labels}
use Rattle.serial_measures.specs.Judging.{LinkEndsInside}
use Rattle.serial_plan.specs.Arrays.{LinkRanks}
use Rattle.serial_plan.proofs.FromTables.{is-link}

-- a label that a cell can have is no more than the number of cells
label-within : (dirs : List ℕ) (g : Grid) (l : List Item) (work : List ℕ) → labels_in work (size g) ≡ region_labels dirs g l → Labels work (size g) → (v : ℕ)
    → 0 < v → v ≤ region_count dirs g l → v ≤ size g
unfolding region_labels region_count
label-within dirs g l work e L v p q =
    let w = each-label-occurs dirs g (spans_of l) v p q in
    let x : word work w.0 ≡ v = sym (label-in work (size g) w.0 w.1) ∙ (ap (λ (t : List ℕ). get_or t w.0 0) e ∙ w.2) in
    omega (arith, x, L.most w.0 w.1)

module _ {dirs : List ℕ} {g : Grid} {anchors : List WalkPosition} {l : List Item} {regions firsts seconds : List ℕ} {r : ℕ}
    (L : LinkTable dirs g anchors l regions firsts seconds r) where
  row_at : (k : ℕ) → k < r → get_or (links dirs g anchors l) k no_link ≡ link_row regions firsts seconds k
  unfolding links_in
  row_at k h = ap (λ (t : List LinkAt). get_or t k no_link) (sym L.all) ∙ rows_at r (link_row regions firsts seconds) k no_link h

  many : length (links dirs g anchors l) ≡ r
  unfolding links_in
  many = ap (λ (t : List LinkAt). length t) (sym L.all) ∙ length-rows r (link_row regions firsts seconds)

  rises : (j k : ℕ) → j < k → k < r → get_or regions j 0 < get_or regions k 0
  rises j k h m =
      let p = pairs-at no_link (links-rising dirs g anchors l) j k h (omega (arith, many)) in
      let x : (get_or (links dirs g anchors l) j no_link).region ≡ get_or regions j 0 = ap (λ (t : LinkAt). t.region) (row_at j (omega arith)) in
      let y : (get_or (links dirs g anchors l) k no_link).region ≡ get_or regions k 0 = ap (λ (t : LinkAt). t.region) (row_at k m) in
      omega (arith, p, x, y)

  pub regions-are : {work : List ℕ} → labels_in work (size g) ≡ region_labels dirs g l → Labels work (size g) → LinkRegions regions r (size g)
  regions-are {work} e B = record {
    few = L.most;
    from = λ k h. (is-link L k h).some;
    to = λ k h. label-within dirs g l work e B (get_or regions k 0) (is-link L k h).some (is-link L k h).last;
    apart = λ j k h m e.
        by-test (ltb j k) (λ t. let z = rises j k (ltb-true j k t) m in absurd (omega (arith, z, e)))
        (λ t. by-test (ltb k j) (λ s. let z = rises k j (ltb-true k j s) h in absurd (omega (arith, z, e)))
        (λ s. let u = ltb-false j k t in let v = ltb-false k j s in omega (arith, u, v)));
  }

pub ranks-are : {n : ℕ} {firsts seconds : List ℕ} {r : ℕ} → n ≤ 256 → LinkRanks n firsts seconds r → LinkEndsInside firsts seconds r
ranks-are h R = record { first = λ k b. omega (arith, R.first-in k b); second = λ k b. omega (arith, R.second-in k b) }

pub owners-are : (dirs : List ℕ) (g : Grid) (l : List Item) {owners lefts rights : List ℕ} {n : ℕ} → Paired dirs g l owners lefts rights n
    → OwnersBelow owners n (length l)
owners-are dirs g l {owners} {lefts} {rights} {n} P = record {
  each = λ k h.
      let x : get_or (records dirs g (spans_of l)) k no_record ≡ record_in owners lefts rights k = ap (λ (t : List Record). get_or t k no_record) (sym P.all)
      ∙ records-at owners lefts rights n k h in
      let y : length (records dirs g (spans_of l)) ≡ n = ap (λ (t : List Record). length t) (sym P.all) ∙ records-length owners lefts rights n in
      let m = subst (λ (t : Record). Memᴰ t (records dirs g (spans_of l))) x (get_d-mem (records dirs g (spans_of l)) no_record k (omega (arith, y))) in
      let b = ((records-iff dirs g (spans_of l) no_span (record_in owners lefts rights k)).0 m).0 in
      omega (arith, b, length-map l (λ (i : Item). i.span));
}
