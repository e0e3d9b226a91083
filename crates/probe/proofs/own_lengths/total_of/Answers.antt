use native.Mathlib.Omega.{arith}
use Rattle.serial_sums.proofs.PartLaws.{length_part, parts-start, parts-count, parts_next}
use Rattle.probe.proofs.LengthLaws.{length_term, one-off-map, all-on-map, first_more}
use Rattle.probe.proofs.own_lengths.total_of.Goals as goal

pub loop-d-init : goal.loop-d-init
loop-d-init c = (λ i l. absurd (omega (arith, l)), parts-start (length_term c.args.ds.now) c.none-parts.ensures)

pub returns-then-d-gt-MOST_SQUARES : goal.returns-then-d-gt-MOST_SQUARES
returns-then-d-gt-MOST_SQUARES c =
    one-off-map c.args.ds.now {j = c.loop-d.d-index} (omega arith) c.if-d-gt-MOST_SQUARES.true c.no_length.ensures

pub with-parts-requires : goal.with-parts-requires
with-parts-requires c =
    (omega (arith, parts-count (length_term c.args.ds.now) c.loop-d.invariant.1), length_part _ c.length_of.ensures)

pub loop-d-preserved : goal.loop-d-preserved
loop-d-preserved c =
    let ds = c.args.ds.now in
    let inv = c.loop-d.invariant in
    (first_more ds inv.0 c.if-d-gt-MOST_SQUARES.false, parts_next (length_term ds) inv.1 c.length_of.ensures c.with-parts.ensures)

pub ascending_sum-requires : goal.ascending_sum-requires
ascending_sum-requires c =
    let inv = c.loop-d.invariant in
    (omega (arith, parts-count (length_term c.args.ds.now) inv.1), (_, inv.1))

pub returns : goal.returns
returns c =
    let inv = c.loop-d.invariant in
    all-on-map c.args.ds.now {j = c.loop-d.d-index} (omega arith) inv.0 inv.1 c.ascending_sum.ensures c.from.ensures
