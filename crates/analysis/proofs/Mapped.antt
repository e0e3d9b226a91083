-- The map of a job whose header is right: the part of the job that its cells are.
use mathlib.Core.Path.{◌≡◌, refl, ◌∙◌, ap}
use mathlib.Core.List.{List}
use Prim.Native.Nat.{ℕ, ◌+◌, ◌*◌, ◌-◌, ◌≤◌}
use native.Mathlib.Omega.{arith}
use borrow.Rule.Slice.PartMut.{mid_len}
use lib.ListN.{length, take, drop}
use Rattle.grid.specs.Cells.{map_of}
use Rattle.wire.specs.Bytes.{part}
use Rattle.format.specs.Header.{header_at, counts_at, map_cells}
use Rattle.format.specs.Decode.{decode, job_with}
use Rattle.format.specs.declared.header.Header.{Header}
use Rattle.areas.specs.Spans.{SpansFit}
use Rattle.checks.specs.Passed.{Laid}
use Rattle.checks.proofs.Limits.{sections}
use Rattle.areas_partition.specs.Partitioned.{Partitionable}
use Rattle.results.specs.Rules.{grid_of}
use Rattle.results.specs.Results.{work_size}
use Rattle.analysis.specs.Plans.{Leads}

module _ {s : List ℕ} {h : Header} (k : h ≡ header_at s) (l : Laid s h) where
  pub header-counts : h.counts ≡ counts_at s 0
  unfolding header_at
  header-counts = ap (λ (x : Header). x.counts) k

  module _ (n : ℕ) (e : n ≡ h.counts.width * h.counts.height) where
    abbrev cells : List ℕ
    cells = take (48 + n - 48) (drop 48 s)

    pub map-inside : 48 + n ≤ length s
    map-inside = omega (arith, e, (sections s h l).cells_in)

    pub map-cells : cells ≡ (decode s).cells
    unfolding decode job_with part
    map-cells =
        let c : h.counts.width * h.counts.height ≡ map_cells (counts_at s 0) = ap map_cells header-counts in
        let i : 48 + n - 48 ≡ map_cells (counts_at s 0) = omega (arith, e, c) in
        ap (λ (i : ℕ). take i (drop 48 s)) i

    pub map-long : length cells ≡ h.counts.width * h.counts.height
    map-long = mid_len 48 (48 + n) s map-inside ∙ (let z : 48 + n - 48 ≡ h.counts.width * h.counts.height = omega (arith, e) in z)

    pub map_is : map_of h.counts.width h.counts.height cells ≡ grid_of (decode s)
    unfolding decode job_with
    map_is = rw (header-counts, map-cells) refl

    -- spans that fit it can partition it
    pub map-partitionable : {directions : ℕ} → Leads directions → {ends work : List ℕ} {count : ℕ} → SpansFit h.counts.width h.counts.height ends count
        → count ≤ 256 → work_size (decode s) ≤ length work
        → Partitionable h.counts.width h.counts.height cells directions ends count work
    map-partitionable leads f few room = record {
      sides = record {
        columns = omega (arith, l.within.width_some);
        rows = omega (arith, l.within.height-some);
        wide = l.within.width;
        high = l.within.height;
      };
      whole = map-long;
      each = leads;
      spans = f;
      few = few;
      room = rw map-cells room;
    }
