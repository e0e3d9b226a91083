-- A job's boundaries by their own ends, in their own order: these can partition its map.
use mathlib.Core.Path.{◌≡◌, sym, ◌∙◌, ap}
use mathlib.Core.List.{List}
use Prim.Native.Nat.{ℕ, ◌+◌, ◌*◌, ◌-◌}
use native.Mathlib.Omega.{arith}
use lib.ListN.{take, drop}
use Rattle.format.specs.Sizes.{boundary_size}
use Rattle.format.specs.Header.{counts_at}
use Rattle.format.specs.Decode.{decode}
use Rattle.format.specs.declared.header.Header.{Header}
use Rattle.grid.specs.Cells.{Grid, map_of}
use Rattle.areas.specs.Areas.{area_labels, area_count}
use Rattle.areas.specs.Assessments.{records}
use Rattle.areas.specs.Spans.{SpansFit, spans_in}
use Rattle.areas_partition.specs.Partitioned.{Partitionable}
use Rattle.serial_ranks.specs.Tables.{Records, Identity, SpansOf}
use Rattle.results.specs.Rules.{grid_of}
use Rattle.results.specs.Results.{own_ends}
use Rattle.analysis.specs.Plans.{Leads, Headed, OwnJob, OwnEnds}
use Rattle.analysis.proofs.RankedTables.{own-listed-fit, own-labels-listed, own-areas-listed, own-records-listed}
use Rattle.analysis.proofs.Headed.{headed-checked, headed-laid, counts-are, count-is, start_is, keys_in_lem}
use Rattle.analysis.proofs.Mapped.{map_is, map-partitionable}

-- the array that the ends are put into
module _ {s : List ℕ} {h : Header} (d : Headed s h) {at n : ℕ} (a : at ≡ h.offsets.boundaries) (e : n ≡ h.counts.boundaries) {order : List ℕ}
    (o : Identity order) where
  pub own-order : Records s at boundary_size order n
  own-order =
      let k = keys_in_lem d at n a e in
      record { few = k.0; least = omega arith; most = omega arith; inside = k.1; named = λ i l. rw (o.each i (omega (arith, k.0))) l }

  pub own_put : {ends : List ℕ} → SpansOf s at boundary_size order n ends → OwnEnds s ends
  own_put v = record { order = order; identity = o; spans = rw (← (a ∙ start_is d), ← (e ∙ count-is d)) v }

-- the map, and the partition by these ends
module _ {s : List ℕ} {h : Header} {work : List ℕ} (m : OwnJob s h work) {n count : ℕ} (e : n ≡ h.counts.width * h.counts.height)
    (k : count ≡ h.counts.boundaries) {ends : List ℕ} (o : OwnEnds s ends) where
  abbrev cells : List ℕ
  cells = take (48 + n - 48) (drop 48 s)

  abbrev grid : Grid
  grid = map_of h.counts.width h.counts.height cells

  pub own-map : grid ≡ grid_of (decode s)
  own-map = map_is m.headed.header (headed-laid m.headed) n e

  pub own-count : spans_in ends count ≡ spans_in ends (counts_at s 0).boundaries
  own-count = ap (spans_in ends) (k ∙ count-is m.headed)

  own-fit : SpansFit h.counts.width h.counts.height ends count
  own-fit = rw (k ∙ count-is m.headed, counts-are m.headed) (own-listed-fit (headed-checked m.headed) o.identity ends o.spans m.apart)

  pub own-partitionable : {directions : ℕ} → Leads directions
      → Partitionable h.counts.width h.counts.height cells directions ends count work
  own-partitionable leads = map-partitionable m.headed.header (headed-laid m.headed) n e leads own-fit
      (omega (arith, (headed-laid m.headed).within.boundaries)) m.room

  pub own-labels : (dirs : List ℕ) → area_labels dirs grid (spans_in ends count) ≡ area_labels dirs (grid_of (decode s)) (own_ends (decode s))
  own-labels dirs =
      ap (λ (g : Grid). area_labels dirs g (spans_in ends count)) own-map
      ∙ (ap (area_labels dirs (grid_of (decode s))) own-count
      ∙ sym (own-labels-listed (headed-checked m.headed) o.identity ends o.spans dirs (grid_of (decode s))))

  pub own-records : (dirs : List ℕ) → records dirs grid (spans_in ends count) ≡ records dirs (grid_of (decode s)) (own_ends (decode s))
  own-records dirs =
      ap (λ (g : Grid). records dirs g (spans_in ends count)) own-map
      ∙ (ap (records dirs (grid_of (decode s))) own-count
      ∙ sym (own-records-listed (headed-checked m.headed) o.identity ends o.spans dirs (grid_of (decode s))))

  pub own-areas : (dirs : List ℕ) → area_count dirs grid (spans_in ends count) ≡ area_count dirs (grid_of (decode s)) (own_ends (decode s))
  own-areas dirs =
      ap (λ (g : Grid). area_count dirs g (spans_in ends count)) own-map
      ∙ (ap (area_count dirs (grid_of (decode s))) own-count
      ∙ sym (own-areas-listed (headed-checked m.headed) o.identity ends o.spans dirs (grid_of (decode s))))
