use native.Mathlib.Omega.{arith}
use Rattle.thresholds.proofs.Faulty.{right-sizes, wrong-sizes}
use Rattle.thresholds.proofs.faults.sizes_fault.Goals as goal

pub returns-then-b-lt-LEAST_GROUP : goal.returns-then-b-lt-LEAST_GROUP
returns-then-b-lt-LEAST_GROUP c =
    wrong-sizes c.args.b (λ r. omega (arith, c.if-b-lt-LEAST_GROUP.true, r.smallest))

pub returns-then-b : goal.returns-then-b
returns-then-b c =
    wrong-sizes c.args.b (λ r. omega (arith, c.if-b.true, r.ordered))

pub returns-then-b-gt-MOST_GROUP : goal.returns-then-b-gt-MOST_GROUP
returns-then-b-gt-MOST_GROUP c =
    wrong-sizes c.args.b (λ r. omega (arith, c.if-b-gt-MOST_GROUP.true, r.largest))

pub returns : goal.returns
returns c =
    right-sizes c.args.b (record {
      smallest = omega (arith, c.if-b-lt-LEAST_GROUP.false);
      ordered = omega (arith, c.if-b.false);
      largest = omega (arith, c.if-b-gt-MOST_GROUP.false);
    })
