-- The table of labels after a partition: all zero, within the work, and records that the bridge walk and closing take.
use mathlib.Core.Path.{◌≡◌, sym, ◌∙◌, ap}
use mathlib.Core.Logic.{by_cases}
use mathlib.Core.List.{List, ◌++◌, flat_map}
use Prim.Native.Nat.{ℕ, ◌+◌, ◌*◌, ◌≤◌, ◌<◌}
use native.Mathlib.Omega.{arith}
use native.Mathlib.Decide.{dec_lt, ℕ_discrete}
use lib.ListN.{length, get_or, drop, replicate, length-append, length-replicate, get_or-replicate}
use lib.Seq.{drop-append_seam, drop-append-add}
use Rattle.areas.specs.Words.{labelled}
use Rattle.lists.specs.Rows.{at}
use Rattle.lists.proofs.Flat.{length-pieces}
use Rattle.order.proofs.Pairs.{pairs-at}
use Rattle.wire.specs.Bytes.{part, number, number_at, u32_at, u32_bytes}
use Rattle.wire.proofs.Parts.{part_left, part_right}
use Rattle.wire.proofs.Numbers.{length-bytes}
use Rattle.wire.proofs.Words.{four_bytes}
use Rattle.graph.specs.Records.{Record, records_in, record_at, no_record}
use Rattle.graph.proofs.Records.{records-at}
use Rattle.grid.specs.Cells.{Grid, size}
use Rattle.areas.specs.Areas.{area_labels}
use Rattle.areas.specs.Spans.{spans_in}
use Rattle.areas.specs.Assessments.{records}
use Rattle.areas.proofs.Areas.{area-labels-length}
use Rattle.areas.proofs.Records.{records-rising}
use Rattle.graph.specs.Slices.{Owners}
use Rattle.serial_bridges.specs.Names.{Labelled}
use Rattle.serial_walk.specs.Marks.{bridge_marks}
use Rattle.marks_closing.specs.Marks.{choke_marks}
use Rattle.marks_closing.specs.Ranges.{RisingOwners}
use Rattle.marks.specs.Owned.{OwnedRecords}
use Rattle.areas_partition.specs.Partitioned.{Partitioned}
use Rattle.areas_partition.specs.declared.Partition.{Partition}
use Rattle.analysis.specs.Bridging.{Bridged, AreasWithin, MarkedWithin}

module _ (ls before : List ℕ) where
  abbrev zeros : List ℕ
  zeros = replicate (6 * length ls) 0

  flat-long : length (flat_map u32_bytes ls) ≡ 4 * length ls
  flat-long = length-pieces 4 u32_bytes (λ v. length-bytes 4 v) ls ∙ (let z : length ls * 4 ≡ 4 * length ls = omega arith in z)

  zeros-long : length zeros ≡ 6 * length ls
  zeros-long = length-replicate (6 * length ls) 0

  zero-at : (i : ℕ) → i < 6 * length ls → get_or zeros i 0 ≡ 0
  zero-at i h = get_or-replicate (6 * length ls) i 0 0 h

  zero_word : (x : ℕ) → x < length ls → u32_at zeros (4 * x) ≡ 0
  zero_word x h =
      omega (
        arith,
        four_bytes zeros (4 * x) (omega (arith, zeros-long)),
        zero-at (4 * x) (omega arith),
        zero-at (4 * x + 1) (omega arith),
        zero-at (4 * x + 2) (omega arith),
        zero-at (4 * x + 3) (omega arith),
      )

  pub table-zero : (x : ℕ) → x < length ls → u32_at (labelled ls before) (4 * length ls + 4 * x) ≡ 0
  unfolding labelled number_at
  table-zero x h =
      ap (λ (a : ℕ). number (part (flat_map u32_bytes ls ++ (zeros ++ drop (10 * length ls) before)) (a + 4 * x) 4)) (sym flat-long)
      ∙ (ap number (part_right (flat_map u32_bytes ls) (zeros ++ drop (10 * length ls) before) (4 * x) 4)
      ∙ (ap number (part_left zeros (drop (10 * length ls) before) (4 * x) 4 (omega (arith, zeros-long))) ∙ zero_word x h))

  pub table-inside : 8 * length ls ≤ length (labelled ls before)
  unfolding labelled
  table-inside =
      omega (
        arith,
        length-append (flat_map u32_bytes ls) (zeros ++ drop (10 * length ls) before),
        length-append zeros (drop (10 * length ls) before),
        flat-long,
        zeros-long,
      )

  -- labels written again change nothing
  pub labelled-again : labelled ls (labelled ls before) ≡ labelled ls before
  unfolding labelled
  labelled-again =
      let z : 10 * length ls ≡ length (flat_map u32_bytes ls) + 6 * length ls = omega (arith, flat-long) in
      ap (λ (t : List ℕ). flat_map u32_bytes ls ++ (zeros ++ t))
      (ap (λ (i : ℕ). drop i (flat_map u32_bytes ls ++ (zeros ++ drop (10 * length ls) before))) z
      ∙ (drop-append-add (flat_map u32_bytes ls) (zeros ++ drop (10 * length ls) before) (6 * length ls)
      ∙ (ap (λ (i : ℕ). drop i (zeros ++ drop (10 * length ls) before)) (sym zeros-long) ∙ drop-append_seam zeros (drop (10 * length ls) before))))

module _ {most : ℕ} {dirs : List ℕ} {g : Grid} {ends : List ℕ} {count : ℕ} {before work removed separated owners lefts rights : List ℕ} {p : Partition}
    (r : Partitioned most dirs g ends count before work removed separated owners lefts rights p) where
  -- over `most` pairs nothing is asked of the marks
  pub unbridged : {marks : List ℕ} → most < p.pairs → Bridged most dirs g (spans_in ends count) marks
  unbridged h = λ few. absurd (omega (arith, r.pairs-are few))

  pub few-pairs : p.pairs ≤ most → length (records dirs g (spans_in ends count)) ≤ most
  few-pairs h = by_cases (dec_lt most (length (records dirs g (spans_in ends count)))) (λ o. absurd (omega (arith, r.over o))) (λ o. omega arith)

  pub owners-in : count ≤ 256 → p.pairs ≤ most → Owners p.pairs owners
  owners-in c h = λ k l. let z = r.owners-few (few-pairs h) k l in omega arith

  pub labels_in_lem : (n : ℕ) → n ≡ size g → most ≤ 4096 → length lefts ≡ most → length rights ≡ most → p.pairs ≤ most → Labelled p.pairs lefts rights n
  labels_in_lem n e few el er h = rw e (record {
    few = omega arith;
    lefts-are = omega arith;
    rights-are = omega arith;
    left-from = λ k l. (r.regions (few-pairs h) k l).some;
    left-to = λ k l. let z = r.regions (few-pairs h) k l in omega (arith, z.apart, z.most);
    right-from = λ k l. let z = r.regions (few-pairs h) k l in omega (arith, z.apart, z.some);
    right-to = λ k l. (r.regions (few-pairs h) k l).most;
  })

  -- the records stand in the order of their owners
  owner_at_lem : p.pairs ≤ most → (k : ℕ) → k < p.pairs → (record_at (records dirs g (spans_in ends count)) k).owner ≡ at owners k
  owner_at_lem h k l =
      ap (λ rs. (record_at rs k).owner) (sym (r.records-are (few-pairs h))) ∙ ap (λ (x : Record). x.owner) (records-at owners lefts rights p.pairs k l)

  rising-in : p.pairs ≤ most → RisingOwners p.pairs owners
  rising-in h i j b l =
      by_cases (ℕ_discrete i j) (λ e. omega (arith, ap (at owners) e))
      (λ e. omega (
        arith,
        pairs-at no_record (records-rising dirs g (spans_in ends count)) i j (omega arith) (omega (arith, r.pairs-are (few-pairs h))),
        owner_at_lem h i (omega arith),
        owner_at_lem h j l,
      ))

  labels-long : length (area_labels dirs g (spans_in ends count)) ≡ size g
  labels-long = area-labels-length dirs g (spans_in ends count)

  pub room_in : (n : ℕ) → n ≡ size g → 4 * n + 4 * n ≤ length work
  room_in n e = rw r.work-is (omega (arith, e, labels-long, table-inside (area_labels dirs g (spans_in ends count)) before))

  pub zero_in : (n : ℕ) → n ≡ size g → (x : ℕ) → x < n → u32_at work (4 * n + 4 * x) ≡ 0
  zero_in n e x h =
      let z : n ≡ length (area_labels dirs g (spans_in ends count)) = e ∙ sym labels-long in
      let b : x < length (area_labels dirs g (spans_in ends count)) = omega (arith, z) in
      ap (λ (w : List ℕ). u32_at w (4 * n + 4 * x)) r.work-is
      ∙ (ap (λ (a : ℕ). u32_at (labelled (area_labels dirs g (spans_in ends count)) before) (4 * a + 4 * x)) z
      ∙ table-zero (area_labels dirs g (spans_in ends count)) before x b)

  pub bridged : {marks : List ℕ} → marks ≡ bridge_marks (records_in owners lefts rights p.pairs) 256 → Bridged most dirs g (spans_in ends count) marks
  bridged e = λ few. e ∙ ap (λ rs. bridge_marks rs 256) (r.records-are few)

  -- what marking asks of them
  pub owned_in : (n : ℕ) → n ≡ size g → count ≤ 256 → most ≤ 4096 → length owners ≡ most → length lefts ≡ most → length rights ≡ most → p.pairs ≤ most
      → OwnedRecords p.pairs owners lefts rights n (4 * n) work
  owned_in n e c few eo el er h = record {
    marked = owners-in c h;
    owners-are = omega arith;
    rising = rising-in h;
    labelled = labels_in_lem n e few el er h;
    room = room_in n e;
    zero = zero_in n e;
  }

  -- the marks of the records are those of the map
  pub marked-within : {marks after : List ℕ} → after ≡ work → marks ≡ choke_marks (records_in owners lefts rights p.pairs) 256
      → MarkedWithin most dirs g (spans_in ends count) marks before after p.pairs
  marked-within a e = record {
    work-is = a ∙ r.work-is;
    over = r.over;
    pairs-are = r.pairs-are;
    told = λ few. e ∙ ap (λ rs. choke_marks rs 256) (r.records-are few);
  }

  -- over `most` pairs nothing is asked of them
  pub unmarked-within : {marks : List ℕ} → most < p.pairs → MarkedWithin most dirs g (spans_in ends count) marks before work p.pairs
  unmarked-within h = record {
    work-is = r.work-is;
    over = r.over;
    pairs-are = r.pairs-are;
    told = λ few. absurd (omega (arith, r.pairs-are few));
  }

  -- what it says of the areas
  pub areas-within : AreasWithin most dirs g (spans_in ends count) before work p.areas p.pairs
  areas-within = record { work-is = r.work-is; over = r.over; pairs-are = r.pairs-are; told = λ few. r.areas-are }
