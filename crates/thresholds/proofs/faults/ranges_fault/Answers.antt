use native.Mathlib.Omega.{arith}
use Rattle.thresholds.proofs.Faulty.{right-ranges, wrong-ranges}
use Rattle.thresholds.proofs.faults.ranges_fault.Goals as goal

pub returns-then-b-gt-MAX_WIDTH_BITS : goal.returns-then-b-gt-MAX_WIDTH_BITS
returns-then-b-gt-MAX_WIDTH_BITS c =
    wrong-ranges c.args.b (λ r. omega (arith, c.if-b-gt-MAX_WIDTH_BITS.true, r.chain))

pub returns-then-b-gt-MAX_WIDTH_BITS-2 : goal.returns-then-b-gt-MAX_WIDTH_BITS-2
returns-then-b-gt-MAX_WIDTH_BITS-2 c =
    wrong-ranges c.args.b (λ r. omega (arith, c.if-b-gt-MAX_WIDTH_BITS-2.true, r.width))

pub returns-then-b-gt-MAX_WIDTH_BITS-3 : goal.returns-then-b-gt-MAX_WIDTH_BITS-3
returns-then-b-gt-MAX_WIDTH_BITS-3 c =
    wrong-ranges c.args.b (λ r. omega (arith, c.if-b-gt-MAX_WIDTH_BITS-3.true, r.geometry))

pub returns-then-b-gt-MAX_WIDTH_BITS-4 : goal.returns-then-b-gt-MAX_WIDTH_BITS-4
returns-then-b-gt-MAX_WIDTH_BITS-4 c =
    wrong-ranges c.args.b (λ r. omega (arith, c.if-b-gt-MAX_WIDTH_BITS-4.true, r.duplicate))

pub returns-then-b-gt-MAX_WIDTH_BITS-5 : goal.returns-then-b-gt-MAX_WIDTH_BITS-5
returns-then-b-gt-MAX_WIDTH_BITS-5 c =
    wrong-ranges c.args.b (λ r. omega (arith, c.if-b-gt-MAX_WIDTH_BITS-5.true, r.envelope))

pub returns-then-b-gt-MAX_COSINE_BITS : goal.returns-then-b-gt-MAX_COSINE_BITS
returns-then-b-gt-MAX_COSINE_BITS c =
    wrong-ranges c.args.b (λ r. omega (arith, c.if-b-gt-MAX_COSINE_BITS.true, r.cosine))

pub returns : goal.returns
returns c =
    right-ranges c.args.b (record {
      chain = omega (arith, c.if-b-gt-MAX_WIDTH_BITS.false);
      width = omega (arith, c.if-b-gt-MAX_WIDTH_BITS-2.false);
      geometry = omega (arith, c.if-b-gt-MAX_WIDTH_BITS-3.false);
      duplicate = omega (arith, c.if-b-gt-MAX_WIDTH_BITS-4.false);
      envelope = omega (arith, c.if-b-gt-MAX_WIDTH_BITS-5.false);
      cosine = omega (arith, c.if-b-gt-MAX_COSINE_BITS.false);
    })
