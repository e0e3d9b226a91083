-- What a partition by spans in the order of ranks says of the listing.
use mathlib.Core.Path.{◌≡◌, refl, sym, ◌∙◌, ap}
use mathlib.Core.Bool.{Bool, cond}
use mathlib.Core.List.{List, ◌++◌, flat_map}
use Prim.Native.Nat.{ℕ, ◌+◌, ◌*◌, ◌≤◌, ◌<◌}
use native.Mathlib.Omega.{arith}
use lib.ListN.{length, get_or, drop, replicate, get_or-map}
use lib.Seq.{drop-append_seam}
use Rattle.lists.proofs.Rows.{rows_at}
use Rattle.wire.specs.Bytes.{splice, u32_bytes}
use Rattle.position.specs.declared.Span.{Span}
use Rattle.format.specs.Header.{counts_at}
use Rattle.format.specs.Decode.{decode}
use Rattle.graph.specs.Bridges.{is_bridge}
use Rattle.grid.specs.Cells.{Grid, size}
use Rattle.areas.specs.Areas.{area_labels, label_at}
use Rattle.areas.specs.Assessments.{records, assess}
use Rattle.areas.specs.Spans.{span_in, spans_in}
use Rattle.areas.proofs.Areas.{area-labels-length}
use Rattle.areas.specs.Words.{word, labels_in, labelled}
use Rattle.areas_components.proofs.LabelWords.{word_read, labels-read}
use Rattle.context.specs.Listing.{Item}
use Rattle.serial_groups.specs.Listing as Rank
use Rattle.serial_groups.specs.Regions.{region_labels, assess_at, bridge_at}
use Rattle.serial_groups.specs.Tables.{Counted, Paired, Bridged as BridgesOf}
use Rattle.serial_walk.specs.Marks.{bridge_marks}
use Rattle.serial_measures.specs.Tables.{Labels}
use Rattle.areas_partition.specs.Partitioned.{Partitioned}
use Rattle.areas_partition.specs.declared.Partition.{Partition}
use Rattle.results.specs.Rules.{grid_of, listing_of}
use Rattle.results.specs.Results.{labels_of}
use Rattle.analysis.specs.Bridging.{Bridged}
use Rattle.analysis.specs.Plans.{EndsBy, PartitionTables}
use Rattle.analysis.proofs.Bridging.{few-pairs, room_in, zero_in}
use Rattle.analysis.proofs.Ranked.{ByRank}
use Rattle.analysis.proofs.Checked.{Checked}
use Rattle.analysis.proofs.RankedTables.{listed-count, spans-ranked, labels_in_lem, records-in}

-- the labels in the first bytes of the work
module _ (ls before : List ℕ) (small : (i : ℕ) → i < length ls → get_or ls i 0 < 4294967296) where
  first-written : labelled ls before ≡ splice (labelled ls before) 0 (flat_map u32_bytes ls)
  unfolding labelled splice
  first-written =
      let rest : List ℕ = replicate (6 * length ls) 0 ++ drop (10 * length ls) before in
      let z : 0 + length (flat_map u32_bytes ls) ≡ length (flat_map u32_bytes ls) = omega arith in
      ap (λ (t : List ℕ). flat_map u32_bytes ls ++ t)
      (sym (ap (λ (i : ℕ). drop i (flat_map u32_bytes ls ++ rest)) z ∙ drop-append_seam (flat_map u32_bytes ls) rest))

  pub label-read : (i : ℕ) → i < length ls → word (labelled ls before) i ≡ get_or ls i 0
  label-read i h = ap (λ (w : List ℕ). word w i) first-written ∙ word_read (labelled ls before) ls i h (small i h)

  pub all_read : labels_in (labelled ls before) (length ls) ≡ ls
  all_read = ap (λ (w : List ℕ). labels_in w (length ls)) first-written ∙ labels-read (labelled ls before) ls (length ls) refl small

module _ {distinct : Bool} {s : List ℕ} (c : Checked distinct s) {order : List ℕ} (k : ByRank (decode s).boundaries order) {ends : List ℕ} {ss : List Span}
    (m : EndsBy s order ends ss)
    {dirs : List ℕ} {most : ℕ} {before work removed separated owners lefts rights : List ℕ} {p : Partition}
    (r : Partitioned most dirs (grid_of (decode s)) ends (counts_at s 0).boundaries before work removed separated owners lefts rights p) where
  abbrev n : ℕ
  n = (counts_at s 0).boundaries

  abbrev g : Grid
  g = grid_of (decode s)

  abbrev ts : List Span
  ts = spans_in ends n

  abbrev l : List Item
  l = listing_of (decode s) ss

  spans-are : Rank.spans_of l ≡ ts
  spans-are = spans-ranked c k ss m.matched ends m.each

  count : length l ≡ n
  count = listed-count c k ss m.matched

  inside : {i : ℕ} → i < length l → i < n
  inside {i} h = omega (arith, count)

  pub told-work : work ≡ labelled (labels_of dirs (decode s) ss) before
  told-work = r.work-is ∙ ap (λ (ls : List ℕ). labelled ls before) (sym (labels_in_lem c k ss m.matched dirs g ends m.each))

  pairs-alike : length (records dirs g ss) ≡ length (records dirs g ts)
  pairs-alike = records-in c k ss m.matched dirs g ends m.each

  pub told_over : most < length (records dirs g ss) → p.pairs ≡ most + 1
  told_over h = r.over (omega (arith, pairs-alike))

  pub told-pairs : length (records dirs g ss) ≤ most → p.pairs ≡ length (records dirs g ss)
  told-pairs h = r.pairs-are (omega (arith, pairs-alike)) ∙ sym pairs-alike

  pub told-few : length (records dirs g ss) ≤ most → p.pairs ≤ most
  told-few h = omega (arith, told-pairs h)

  module _ (few : size g ≤ 1048576) where
    labels-long : length (area_labels dirs g ts) ≡ size g
    labels-long = area-labels-length dirs g ts

    small : (i : ℕ) → i < length (area_labels dirs g ts) → get_or (area_labels dirs g ts) i 0 < 4294967296
    small i h = omega (arith, r.labels-few i (omega (arith, labels-long)))

    labels-are : labels_in work (size g) ≡ region_labels dirs g l
    unfolding region_labels
    labels-are =
        ap (λ (w : List ℕ). labels_in w (size g)) r.work-is
        ∙ (ap (λ (i : ℕ). labels_in (labelled (area_labels dirs g ts) before) i) (sym labels-long)
        ∙ (all_read (area_labels dirs g ts) before small ∙ ap (area_labels dirs g) (sym spans-are)))

    labels-there : Labels work (size g)
    labels-there = record {
      room = omega (arith, room_in r (size g) refl);
      most = λ i h.
          let b : i < length (area_labels dirs g ts) = omega (arith, labels-long) in
          let e : word work i ≡ label_at (area_labels dirs g ts) i = ap (λ (w : List ℕ). word w i) r.work-is
          ∙ label-read (area_labels dirs g ts) before small i b in
          omega (arith, e, r.labels-few i h);
      clear = zero_in r (size g) refl;
    }

    module _ (room : most ≤ 4096) (h : p.pairs ≤ most) {marks : List ℕ} (b : Bridged most dirs g ts marks) where
      few-records : length (records dirs g ts) ≤ most
      few-records = few-pairs r h

      span-is : (i : ℕ) → i < n → (get_or l i Rank.no_item).span ≡ span_in ends i
      unfolding spans_in
      span-is i o =
          sym (get_or-map (λ (x : Item). x.span) l i Rank.no_item)
          ∙ (ap (λ (xs : List Span). get_or xs i Rank.no_span) spans-are ∙ rows_at n (span_in ends) i Rank.no_span o)

      assess-is : (i : ℕ) → i < n → assess_at dirs g l i ≡ assess dirs g ts (span_in ends i)
      unfolding assess_at
      assess-is i o = ap (λ (xs : List Span). assess dirs g xs (get_or l i Rank.no_item).span) spans-are ∙ ap (assess dirs g ts) (span-is i o)

      counted : Counted dirs g l removed separated
      counted = record {
        removed-is = λ i o. r.removed-are few-records i (inside o) ∙ sym (ap (λ a. a.removed) (assess-is i (inside o)));
        separated-is = λ i o. r.separated-are few-records i (inside o) ∙ sym (ap (λ a. a.separated) (assess-is i (inside o)));
      }

      paired : Paired dirs g l owners lefts rights p.pairs
      paired = record { most = omega arith; all = r.records-are few-records ∙ ap (records dirs g) (sym spans-are) }

      bridged : BridgesOf dirs g l marks
      unfolding bridge_at bridge_marks
      bridged = record {
        marks-are = λ i o.
            let few-ranks = c.allowed.boundaries in
            ap (λ (x : List ℕ). get_or x i 0) (b few-records)
            ∙ (rows_at 256 (λ j. cond (is_bridge (records dirs g ts) j) 1 0) i 0 (omega (arith, inside o))
            ∙ ap (λ (xs : List Span). cond (is_bridge (records dirs g xs) i) 1 0) (sym spans-are));
      }

      pub told : PartitionTables dirs s work removed separated owners lefts rights p.pairs marks ss
      told = record { matched = m.matched; labels-are = labels-are; counted = counted; paired = paired; bridged = bridged; labels = labels-there }
