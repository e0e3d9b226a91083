-- A map within the limits has at most 2²⁰ cells, and its job's length fits a u32 with room to spare.
use mathlib.Core.Path.{◌≡◌, ap}
use mathlib.Core.List.{List}
use Prim.Native.Nat.{ℕ, ◌≤◌}
use native.Mathlib.Nat.{mul-le-mul}
use native.Mathlib.Omega.{arith}
use lib.ListN.{length}
use Rattle.format.specs.Header.{map_cells, bases_start, boundaries_start, observations_start, sources_start, total_length, offsets_of}
use Rattle.format.specs.declared.header.Counts.{Counts}
use Rattle.format.specs.declared.header.Offsets.{Offsets}
use Rattle.format.specs.declared.header.Header.{Header}
use Rattle.checks.specs.Passed.{Laid, Sections}
use Rattle.format.specs.Fits.{CountsAllowed}

pub cells-limit : (c : Counts) → CountsAllowed c → map_cells c ≤ 1_048_576
cells-limit c w = mul-le-mul w.width w.height

pub total-limit : (c : Counts) → CountsAllowed c → total_length c ≤ 1_200_000
total-limit c w = omega (arith, cells-limit c w)

-- The sections of a job whose header is right.
pub sections : (s : List ℕ) (h : Header) → Laid s h → Sections s h
unfolding offsets_of
sections s h l =
    let b : h.offsets.bases ≡ bases_start h.counts = ap (λ (o : Offsets). o.bases) l.offsets-right in
    let n : h.offsets.boundaries ≡ boundaries_start h.counts = ap (λ (o : Offsets). o.boundaries) l.offsets-right in
    let o : h.offsets.observations ≡ observations_start h.counts = ap (λ (o : Offsets). o.observations) l.offsets-right in
    let q : h.offsets.sources ≡ sources_start h.counts = ap (λ (o : Offsets). o.sources) l.offsets-right in
    let w : length s ≡ total_length h.counts = l.whole in
    record {
      bases-at = b;
      boundaries-at = n;
      observations-at = o;
      sources-at = q;
      cells_in = omega arith;
      bases-in = omega arith;
      boundaries-in = omega arith;
      observations-in = omega arith;
      sources-in = omega arith;
    }
