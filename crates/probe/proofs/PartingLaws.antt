-- What the partition asks of a job that passed its checks, and what it gives.
use mathlib.Core.Path.{◌≡◌, refl, sym, ◌∙◌, ap, subst}
use mathlib.Core.List.{List, [], ◌∷◌, ◌++◌, map, flat_map}
use Prim.Native.Nat.{ℕ, ◌+◌, ◌*◌, ◌-◌, ◌≤◌, ◌<◌}
use native.Mathlib.Omega.{arith}
use borrow.Author.Tests.{ltb-true, ltb-false}
use lib.Dec.{ltb}
use lib.ListN.{length, get_or, take, drop}
use Rattle.areas.specs.Words.{labelled}
use Rattle.order.specs.Pairs.{SameMembers}
use Rattle.order.proofs.Bools.{by-test}
use Rattle.wire.specs.Bytes.{words}
use Rattle.position.specs.Order.{canonical}
use Rattle.position.proofs.Order.{canonical-again}
use Rattle.position.specs.declared.Span.{Span}
use Rattle.format.specs.Header.{counts_at}
use Rattle.format.specs.Decode.{decode}
use Rattle.format.specs.declared.header.Header.{Header}
use Rattle.graph.specs.Records.{record_in, records_in}
use Rattle.grid.specs.Cells.{Grid, map_of}
use Rattle.grid.specs.Directions.{eight, directions_of}
use Rattle.grid.proofs.Directions.{directions-eight}
use Rattle.areas.specs.Areas.{area_count}
use Rattle.areas.specs.Assessments.{assess, records}
use Rattle.areas.specs.Spans.{span_in, spans_in}
use Rattle.areas.proofs.Areas.{count-depends-on-the-set}
use Rattle.areas.proofs.Assessments.{assess-same}
use Rattle.areas.proofs.Listed.{eq-same, records-same}
use Rattle.areas_partition.specs.Partitioned.{Partitioned}
use Rattle.areas_partition.specs.declared.Partition.{Partition}
use Rattle.results.specs.Rules.{grid_of}
use Rattle.results.specs.Results.{own_ends}
use Rattle.analysis.specs.Plans.{OwnJob, OwnEnds}
use Rattle.analysis.proofs.Headed.{headed-checked, count-is}
use Rattle.analysis.proofs.OwnEnds.{own-map, own-count, own-labels, own-records}
use Rattle.analysis.proofs.RankedTables.{own-listed, canonical-own}
use Rattle.probe.specs.Parting.{count_bytes, record_bytes, partition_bytes, counts_from, records_from, held_bytes, PartitionBytes, many, short, written}
use Rattle.probe.specs.Parting.{PartitionLeft}
use Rattle.probe.proofs.WritingLaws.{flat-blocks, blocks-same}

-- 4,097 pairs stand for over 4,096
module _ {count pairs found : ℕ} {held bytes out out_end : List ℕ} {number detail : ℕ} where
  over-many : 4096 < found → pairs ≡ 4097 → PartitionBytes count pairs held out out_end number detail
      → PartitionBytes count found bytes out out_end number detail
  over-many l e (many _ n d u) = many l n d u
  over-many l e (short q _ _ _ _) = absurd (omega arith)
  over-many l e (written q _ _ _ _) = absurd (omega arith)

  told-found : (4096 < found → pairs ≡ 4097) → (found ≤ 4096 → pairs ≡ found) → (found ≤ 4096 → held ≡ bytes)
      → PartitionBytes count pairs held out out_end number detail → PartitionBytes count found bytes out out_end number detail
  told-found over are same x =
      by-test (ltb 4096 found)
      (λ h. let l = ltb-true 4096 found h in over-many l (over l) x)
      (λ h.
      let l = ltb-false 4096 found h in
      subst (λ (p : ℕ). PartitionBytes count p bytes out out_end number detail) (are l)
      (subst (λ (b : List ℕ). PartitionBytes count pairs b out out_end number detail) (same l) x))

pub told-right : {count m pairs found right : ℕ} {held bytes out out_end : List ℕ} {number detail : ℕ} → count ≡ m → found ≡ right
    → (4096 < found → pairs ≡ 4097) → (found ≤ 4096 → pairs ≡ found) → (found ≤ 4096 → held ≡ bytes)
    → PartitionBytes count pairs held out out_end number detail → PartitionBytes m right bytes out out_end number detail
told-right {count} {m} {pairs} {found} {right} {held} {bytes} {out} {out_end} {number} {detail} e f over are same x =
    subst (λ (c : ℕ). PartitionBytes c right bytes out out_end number detail) e
    (subst (λ (p : ℕ). PartitionBytes count p bytes out out_end number detail) f (told-found over are same x))

-- the bytes of spans are those of their canonical copies
module _ (dirs : List ℕ) (g : Grid) where
  abbrev counts_of : List Span → Span → List ℕ
  counts_of ss s = count_bytes (assess dirs g ss s).removed (assess dirs g ss s).separated

  counts-canonical : (ss ts : List Span) → SameMembers (map canonical ss) (map canonical ts) → (l : List Span)
      → flat_map (counts_of ss) l ≡ flat_map (counts_of ts) (map canonical l)
  unfolding flat_map
  counts-canonical ss ts same [] = refl
  counts-canonical ss ts same (x ∷ xs) =
      let e : assess dirs g ss x ≡ assess dirs g ts (canonical x) = assess-same dirs g ss ts same x (canonical x) (sym (canonical-again x)) in
      rw (e, counts-canonical ss ts same xs) refl

  pub bytes-canonical : (ss ts : List Span) → map canonical ss ≡ ts → map canonical ss ≡ map canonical ts
      → partition_bytes dirs g ss ≡ partition_bytes dirs g ts
  unfolding partition_bytes
  bytes-canonical ss ts e f =
      let a : area_count dirs g ss ≡ area_count dirs g ts = count-depends-on-the-set dirs g ss ts (eq-same f) in
      let r : records dirs g ss ≡ records dirs g ts = records-same dirs g ss ts f in
      let c : flat_map (counts_of ss) ss ≡ flat_map (counts_of ts) ts = counts-canonical ss ts (eq-same f) ss ∙ ap (flat_map (counts_of ts)) e in
      rw (a, r, c) refl

-- what the arrays hold is what there is to tell
module _ {dirs : List ℕ} {g : Grid} {ends before work removed separated owners lefts rights : List ℕ} {count : ℕ} {p : Partition} where
  pub held_found : Partitioned 4096 dirs g ends count before work removed separated owners lefts rights p → length (records dirs g (spans_in ends count)) ≤ 4096
      → held_bytes p.areas p.pairs count removed separated owners lefts rights ≡ partition_bytes dirs g (spans_in ends count)
  unfolding partition_bytes spans_in records_in
  held_found q few =
      let ss = spans_in ends count in
      let r : records_from owners lefts rights p.pairs ≡ flat_map record_bytes (records dirs g ss)
      = sym (flat-blocks record_bytes (record_in owners lefts rights) p.pairs) ∙ ap (flat_map record_bytes) (q.records-are few) in
      let c : counts_from removed separated count ≡ flat_map (counts_of dirs g ss) ss
      = blocks-same count (λ i. count_bytes (get_or removed i 0) (get_or separated i 0)) (λ i. counts_of dirs g ss (span_in ends i))
      (λ i h. ap (λ (x : ℕ). count_bytes x (get_or separated i 0)) (q.removed-are few i h)
      ∙ ap (count_bytes (assess dirs g ss (span_in ends i)).removed) (q.separated-are few i h))
      ∙ sym (flat-blocks (counts_of dirs g ss) (span_in ends) count) in
      ap (λ (x : ℕ). held_bytes x p.pairs count removed separated owners lefts rights) q.areas-are
      ∙ ap (λ (x : ℕ). words (area_count dirs g ss ∷ x ∷ []) ++ (counts_from removed separated count ++ records_from owners lefts rights p.pairs))
      (q.pairs-are few)
      ∙ ap (λ (x : List ℕ). words (area_count dirs g ss ∷ length (records dirs g ss) ∷ []) ++ (x ++ records_from owners lefts rights p.pairs)) c
      ∙ ap (λ (x : List ℕ). words (area_count dirs g ss ∷ length (records dirs g ss) ∷ []) ++ (flat_map (counts_of dirs g ss) ss ++ x)) r

-- a partition by the spans in the array tells what one by the boundaries' own ends finds
module _ {s : List ℕ} {h : Header} {work : List ℕ} (m : OwnJob s h work) {n count : ℕ} (e : n ≡ h.counts.width * h.counts.height)
    (k : count ≡ h.counts.boundaries) {ends : List ℕ} (o : OwnEnds s ends) (dirs : List ℕ) where
  abbrev grid : Grid
  grid = map_of h.counts.width h.counts.height (take (48 + n - 48) (drop 48 s))

  bytes-own : partition_bytes dirs grid (spans_in ends count) ≡ partition_bytes dirs (grid_of (decode s)) (own_ends (decode s))
  bytes-own =
      let c = headed-checked m.headed in
      ap (λ (g : Grid). partition_bytes dirs g (spans_in ends count)) (own-map m e k o)
      ∙ (ap (partition_bytes dirs (grid_of (decode s))) (own-count m e k o)
      ∙ sym (bytes-canonical dirs (grid_of (decode s)) (own_ends (decode s)) (spans_in ends (counts_at s 0).boundaries)
      (own-listed c o.identity ends o.spans) (canonical-own c o.identity ends o.spans)))

  pub all-parted : {out work_end out_end removed separated owners lefts rights : List ℕ} {p : Partition} {number detail : ℕ}
      → Partitioned 4096 dirs grid ends count work work_end removed separated owners lefts rights p
      → PartitionBytes count p.pairs (held_bytes p.areas p.pairs count removed separated owners lefts rights) out out_end number detail
      → PartitionLeft dirs s work out work_end out_end number detail
  all-parted q told = record {
    work-is = q.work-is ∙ ap (λ (l : List ℕ). labelled l work) (own-labels m e k o dirs);
    told = told-right (k ∙ count-is m.headed) (ap length (own-records m e k o dirs)) q.over q.pairs-are (λ few. held_found q few ∙ bytes-own) told;
  }

-- with the eight directions
pub parted-eight : {s work out work_end out_end : List ℕ} {number detail : ℕ} → PartitionLeft (directions_of 495) s work out work_end out_end number detail
    → PartitionLeft eight s work out work_end out_end number detail
parted-eight {s} {work} {out} {work_end} {out_end} {number} {detail} r =
    subst (λ (dirs : List ℕ). PartitionLeft dirs s work out work_end out_end number detail) directions-eight r
