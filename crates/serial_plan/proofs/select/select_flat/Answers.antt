use native.Mathlib.Omega.{arith}
use Rattle.serial_plan.proofs.ArrayLaws.{filled_next, test-mark}
use Rattle.serial_plan.proofs.select.select_flat.Goals as goal

pub is_flat_link-requires : goal.is_flat_link-requires
is_flat_link-requires c = (
  (c.requires.2 c.loop-k.k c.loop-k-test.true).first,
  (c.requires.2 c.loop-k.k c.loop-k-test.true).second,
)

pub loop-k-preserved : goal.loop-k-preserved
loop-k-preserved c = (
  omega (arith, c.loop-k-test.true),
  filled_next c.from.result c.loop-k.invariant.1 (omega (arith, c.loop-k-test.true, c.requires.1)) (test-mark c.from.ensures c.is_flat_link.ensures),
)
