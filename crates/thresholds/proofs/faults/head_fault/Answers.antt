use native.Mathlib.Omega.{arith}
use Rattle.thresholds.proofs.Faulty.{right-head, wrong-head}
use Rattle.thresholds.proofs.faults.head_fault.Goals as goal

pub returns-then-b-ne-NUMBER_COUNT : goal.returns-then-b-ne-NUMBER_COUNT
returns-then-b-ne-NUMBER_COUNT c =
    wrong-head c.args.b (λ r. omega (arith, c.if-b-ne-NUMBER_COUNT.true, r.count))

pub returns-then-b-ne-NUMBER_OFFSET : goal.returns-then-b-ne-NUMBER_OFFSET
returns-then-b-ne-NUMBER_OFFSET c =
    wrong-head c.args.b (λ r. omega (arith, c.if-b-ne-NUMBER_OFFSET.true, r.offset))

pub returns : goal.returns
returns c =
    right-head c.args.b (record { count = omega (arith, c.if-b-ne-NUMBER_COUNT.false); offset = omega (arith, c.if-b-ne-NUMBER_OFFSET.false) })
