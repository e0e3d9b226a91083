-- The labels read back, zeros after them, and the records and counts by them.
use mathlib.Core.Path.{◌≡◌, refl, sym, ◌∙◌, ap, subst}
use mathlib.Core.List.{List, [], ◌++◌, flat_map, append-nil, Memᴰ}
use Prim.Native.Nat.{ℕ, zero, suc, ◌+◌, ◌*◌, ◌-◌, ◌≤◌, ◌<◌}
use native.Mathlib.Omega.{arith}
use lib.ListN.{length, get_or, take, drop, replicate, length-replicate}
use Rattle.lists.proofs.Rows.{length-rows, rows_at}
use Rattle.order.proofs.Members.{get_d-mem}
use Rattle.wire.specs.Bytes.{splice, u32_bytes}
use Rattle.position.specs.declared.Span.{Span}
use Rattle.graph.specs.Records.{Record, record_in, records_in}
use Rattle.grid.specs.Cells.{Grid, size}
use Rattle.areas.specs.Areas.{area_labels, area_count}
use Rattle.areas.specs.Assessments.{assess, records, regions_of}
use Rattle.areas.specs.Spans.{span_in, spans_in}
use Rattle.areas.proofs.Areas.{area-labels-length, label-at-most}
use Rattle.areas.proofs.Assessments.{pair-labels}
use Rattle.areas.proofs.Records.{records-iff}
use Rattle.areas.specs.Words.{labels_in, labelled}
use Rattle.areas_components.proofs.LabelWords.{area-count-few, area-labels-read}
use Rattle.areas_assessments.specs.Recording.{assessed, records_of, Recorded}
use Rattle.areas_partition.specs.Partitioned.{AreasIn, RegionsInUse, Partitioned}
use Rattle.areas_partition.proofs.Labelling.{flat-long}

-- written over nothing
over_nothing : (bs : List ℕ) → splice [] 0 bs ≡ bs
unfolding splice
over_nothing bs = ap (λ (t : List ℕ). bs ++ t) (drop-none (0 + length bs)) ∙ append-nil bs
  where
    drop-none : (k : ℕ) → drop {A = ℕ} k [] ≡ []
    drop-none zero = refl
    drop-none (suc k) = refl

module _ (dirs : List ℕ) (g : Grid) (few : size g ≤ 1048576) where
  -- the labels read back
  pub labels-read : (ss : List Span) (bytes : List ℕ) → bytes ≡ flat_map u32_bytes (area_labels dirs g ss) → labels_in bytes (size g) ≡ area_labels dirs g ss
  labels-read ss bytes e = ap (λ (b : List ℕ). labels_in b (size g)) (e ∙ sym (over_nothing (flat_map u32_bytes (area_labels dirs g ss))))
      ∙ area-labels-read dirs g ss few []

  -- a record is of a span of the list, and between two areas
  record-in : (ss : List Span) (d : Span) (r : Record) → Memᴰ r (records dirs g ss) → (r.owner < length ss) × RegionsInUse (size g) r.left r.right
  record-in ss d r m =
      let k = (records-iff dirs g ss d r).0 m in
      let q = pair-labels dirs g ss _ (regions_of r) k.1 in
      let most : r.right ≤ size g = omega (arith, q.2, area-count-few dirs g ss few) in
      (k.0, record { some = q.0; apart = q.1; most = most })

abbrev zeros : ℕ → List ℕ
zeros k = replicate k 0

zeros-long : (k : ℕ) → length (zeros k) ≡ k
zeros-long k = length-replicate k 0

-- zeros after the labels
pub zeros-after : (dirs : List ℕ) (g : Grid) (ss : List Span) {before w w' : List ℕ} {from to r : ℕ} → AreasIn dirs g ss before w r → from ≡ 4 * size g
    → to ≡ 10 * size g →
    w' ≡ splice w from (replicate (to - from) 0) → w' ≡ labelled (area_labels dirs g ss) before
unfolding splice labelled
zeros-after dirs g ss {before} {w} {w'} {from} {to} a f t e =
    let n = area-labels-length dirs g ss in
    let z : to - from ≡ 6 * length (area_labels dirs g ss) = omega (arith, n, f, t) in
    let k : from + length (zeros (to - from)) ≡ 10 * size g = omega (arith, f, t, zeros-long (to - from)) in
    let d : 10 * size g ≡ 10 * length (area_labels dirs g ss) = omega (arith, n) in
    e
    ∙ (ap (λ (i : ℕ). take i w ++ (zeros (to - from) ++ drop (from + length (zeros (to - from))) w)) f
    ∙ (ap (λ (h : List ℕ). h ++ (zeros (to - from) ++ drop (from + length (zeros (to - from))) w)) a.first
    ∙ (ap (λ (l : List ℕ). flat_map u32_bytes (area_labels dirs g ss) ++ (zeros (to - from) ++ l))
    (ap (λ (i : ℕ). drop i w) k ∙ (a.rest ∙ ap (λ (i : ℕ). drop i before) d))
    ∙ ap (λ (i : ℕ). flat_map u32_bytes (area_labels dirs g ss) ++ (zeros i ++ drop (10 * length (area_labels dirs g ss)) before)) z)))

-- what the records and counts are by the labels of the areas
module _ (dirs : List ℕ) (g : Grid) (few : size g ≤ 1048576) (ends : List ℕ) (count : ℕ) {most : ℕ} {removed separated owners lefts rights : List ℕ} {r : ℕ}
    (recorded : Recorded (area_labels dirs g (spans_in ends count)) dirs g most ends count removed separated owners lefts rights r) where
  abbrev spans : List Span
  spans = spans_in ends count

  abbrev rs : List Record
  rs = records dirs g spans

  pairs-fit : length rs ≤ most → (r ≡ length rs) × (records_in owners lefts rights r ≡ rs)
      × ((i : ℕ) → i < count → (get_or removed i 0 ≡ (assess dirs g spans (span_in ends i)).removed)
      × (get_or separated i 0 ≡ (assess dirs g spans (span_in ends i)).separated))
  unfolding records_of assessed records assess
  pairs-fit h = recorded.fits h

  pairs-over : most < length rs → r ≡ most + 1
  unfolding records_of assessed records assess
  pairs-over h = recorded.over h

  spans-long : length spans ≡ count
  unfolding spans_in
  spans-long = length-rows count (span_in ends)

  -- record k of the arrays
  at_place : length rs ≤ most → (k : ℕ) → k < r → (get_or owners k 0 < count) × RegionsInUse (size g) (get_or lefts k 0) (get_or rights k 0)
  unfolding records_in
  at_place h k l =
      let here : Record = record_in owners lefts rights k in
      let p = pairs-fit h in
      let e : get_or rs k here ≡ here = ap (λ (x : List Record). get_or x k here) (sym p.1) ∙ rows_at r (record_in owners lefts rights) k here l in
      let m : Memᴰ (get_or rs k here) rs = get_d-mem rs here k (omega (arith, p.0)) in
      let q = record-in dirs g few spans (span_in ends 0) here (mathlib.Core.List.Memᴰ.cast (sym e) m) in
      (omega (arith, q.0, spans-long), q.1)

  pub partitioned : {before work : List ℕ} {a : ℕ} → work ≡ labelled (area_labels dirs g spans) before → a ≡ area_count dirs g spans →
      Partitioned most dirs g ends count before work removed separated owners lefts rights (record { areas = a; pairs = r })
  partitioned w a = record {
    work-is = w;
    areas-are = a;
    areas-few = area-count-few dirs g spans few;
    labels-few = λ i l. omega (arith, label-at-most dirs g spans i l, area-count-few dirs g spans few);
    over = pairs-over;
    pairs-are = λ h. (pairs-fit h).0;
    records-are = λ h. (pairs-fit h).1;
    removed-are = λ h i l. ((pairs-fit h).2 i l).0;
    separated-are = λ h i l. ((pairs-fit h).2 i l).1;
    owners-few = λ h k l. (at_place h k l).0;
    regions = λ h k l. (at_place h k l).1;
  }

-- the part of the bytes that holds the labels
module _ (dirs : List ℕ) (g : Grid) (ss : List Span) {before w : List ℕ} {a : ℕ} (areas : AreasIn dirs g ss before w a) where
  lent_is : take (4 * size g - 0) (drop 0 w) ≡ flat_map u32_bytes (area_labels dirs g ss)
  lent_is =
      let e : 4 * size g - 0 ≡ 4 * size g = omega arith in
      ap (λ (k : ℕ). take k w) e ∙ areas.first

  pub lent-long : {p : ℕ} → size g ≡ p → length (take (4 * size g - 0) (drop 0 w)) ≡ 4 * p
  lent-long h = ap length lent_is ∙ (flat-long dirs g ss ∙ ap (λ (n : ℕ). 4 * n) h)

  pub lent-labels : size g ≤ 1048576 → {p : ℕ} → size g ≡ p → labels_in (take (4 * size g - 0) (drop 0 w)) p ≡ area_labels dirs g ss
  lent-labels few h = ap (labels_in (take (4 * size g - 0) (drop 0 w))) (sym h) ∙ labels-read dirs g few ss (take (4 * size g - 0) (drop 0 w)) lent_is

  pub room_after : 10 * size g ≤ length before → 10 * size g ≤ length w
  room_after h = omega (arith, areas.long)

-- all parts of the partition
pub all-parted : (dirs : List ℕ) (g : Grid) (ends : List ℕ) (count : ℕ) → size g ≤ 1048576 → {p : ℕ} → size g ≡ p →
    {before w w' removed separated owners lefts rights : List ℕ} {most from to a r : ℕ} → AreasIn dirs g (spans_in ends count) before w a →
    Recorded (labels_in (take (4 * size g - 0) (drop 0 w)) p) dirs g most ends count removed separated owners lefts rights r →
    w' ≡ splice w from (replicate (to - from) 0) → from ≡ 4 * size g → to ≡ 10 * size g →
    Partitioned most dirs g ends count before w' removed separated owners lefts rights (record { areas = a; pairs = r })
all-parted dirs g ends count few h {before} {w} {w'} {removed} {separated} {owners} {lefts} {rights} {most} {from} {to} {a} {r} areas recorded e f t =
    partitioned dirs g few ends count
    (subst (λ (ls : List ℕ). Recorded ls dirs g most ends count removed separated owners lefts rights r) (lent-labels dirs g (spans_in ends count) areas few h)
    recorded)
    (zeros-after dirs g (spans_in ends count) areas f t e) areas.total
