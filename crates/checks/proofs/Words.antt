-- What the checks of the header's words leave: counts within the limits, and the offsets that they give.
use mathlib.Core.Path.{◌≡◌}
use mathlib.Core.Bool.{true, false}
use mathlib.Core.Option.{none}
use borrow.Author.Tests.{ltb-false, eqb-true, not-false}
use lib.Dec.{eqb}
use Rattle.format.specs.Header.{offsets_of}
use Rattle.format.specs.declared.header.Counts.{Counts}
use Rattle.format.specs.declared.header.Offsets.{Offsets}
use Rattle.format.specs.declared.header.Header.{Header}
use Rattle.checks.specs.Checks.{first_refusal}
use Rattle.checks.specs.Faults.{size_fault, count_fault, boundary_count_fault, same_offsets}
use Rattle.format.specs.Fits.{CountsAllowed}
use Rattle.checks.specs.Single.{header_checks}
use Rattle.order.proofs.Bools.{and_parts, or_parts}
use Rattle.checks.proofs.Firsts.{none-head}

pub within : (c : Counts) → size_fault c ≡ false → count_fault c ≡ false → boundary_count_fault c ≡ false → CountsAllowed c
within c e f g =
    let sides = or_parts _ _ e in
    let w = or_parts _ _ sides.0 in
    let h = or_parts _ _ sides.1 in
    let b = or_parts _ _ f in
    let os = or_parts _ _ b.1 in
    record {
      width_some = ltb-false _ _ w.0;
      height-some = ltb-false _ _ h.0;
      width = ltb-false _ _ w.1;
      height = ltb-false _ _ h.1;
      bases = ltb-false _ _ b.0;
      boundaries = ltb-false _ _ g;
      observations = ltb-false _ _ os.0;
      sources = ltb-false _ _ os.1;
    }

pub same-means : (o p : Offsets) → same_offsets o p ≡ true → o ≡ p
same-means o p e =
    let a = and_parts (eqb o.cells p.cells) _ e in
    let b = and_parts (eqb o.bases p.bases) _ a.1 in
    let c = and_parts (eqb o.boundaries p.boundaries) _ b.1 in
    let d = and_parts (eqb o.observations p.observations) _ c.1 in
    let f = and_parts (eqb o.sources p.sources) _ d.1 in
    λ i. record {
      cells = eqb-true o.cells p.cells a.0 i;
      bases = eqb-true o.bases p.bases b.0 i;
      boundaries = eqb-true o.boundaries p.boundaries c.0 i;
      observations = eqb-true o.observations p.observations d.0 i;
      sources = eqb-true o.sources p.sources f.0 i;
      total = eqb-true o.total p.total f.1 i;
    }

-- A header whose words pass.
pub header-passed : (h : Header) → first_refusal (header_checks h) ≡ none → (CountsAllowed h.counts) × (h.offsets ≡ offsets_of h.counts)
unfolding header_checks
header-passed h e =
    let a = none-head _ _ e in
    let b = none-head _ _ a.1 in
    let c = none-head _ _ b.1 in
    let d = none-head _ _ c.1 in
    (within h.counts a.0 b.0 c.0, same-means h.offsets (offsets_of h.counts) (not-false _ d.0))
