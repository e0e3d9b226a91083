use mathlib.Core.Path.{◌≡◌}
use mathlib.Core.Bool.{not, ◌&&◌}
use mathlib.Core.List.{List}
use Prim.Native.Nat.{ℕ, ◌+◌}
use native.Mathlib.Omega.{arith}
use lib.Dec.{eqb}
use Rattle.format.specs.Decode.{boundary_records, observation_records, observation_total, own_total, source_count}
use Rattle.format.specs.declared.header.Header.{Header}
use Rattle.checks.specs.Passed.{Laid}
use Rattle.checks.specs.Single.{sums_fault}
use Rattle.checks.proofs.Limits.{sections}
use Rattle.checks.proofs.sums.sums_fault.Goals as goal

-- What the three sums say of the job.
sums-told : (s : List ℕ) (h : Header) → Laid s h
    → {o w k : ℕ}
    → o ≡ observation_total (boundary_records s h.offsets.boundaries h.counts.boundaries)
    → w ≡ own_total (boundary_records s h.offsets.boundaries h.counts.boundaries)
    → k ≡ source_count (observation_records s h.offsets.observations h.counts.observations)
    → not (eqb o h.counts.observations && eqb (w + k) h.counts.sources) ≡ sums_fault s h.counts
unfolding sums_fault
sums-told s h l a b c = let q = sections s h l in cc (q.boundaries-at, q.observations-at)

pub observation_total-observed-requires : goal.observation_total-observed-requires
observation_total-observed-requires c =
    let q = sections _ _ c.requires in (omega (arith, q.boundaries-in), omega arith)

pub own_total-requires : goal.own_total-requires
own_total-requires c =
    let q = sections _ _ c.requires in (omega (arith, q.boundaries-in), omega arith)

pub source_count-requires : goal.source_count-requires
source_count-requires c =
    let q = sections _ _ c.requires in (omega (arith, q.observations-in), omega arith)

pub returns : goal.returns
returns c =
    simp (c.from.ensures, c.from-2.ensures)
    (sums-told _ _ c.requires c.observation_total-observed.ensures c.own_total.ensures.0 c.source_count.ensures.0)
