use native.Mathlib.Omega.{arith}
use Rattle.serial_candidates.proofs.regions.nearer.Goals as goal

pub returns-then-after-x : goal.returns-then-after-x
returns-then-after-x c = let e = c.if-after-x.true in (rw e, omega (arith, c.ranges.x))

pub returns-else-after-x : goal.returns-else-after-x
returns-else-after-x c = let e = c.if-after-x.false in (rw e, omega (arith, c.ranges.best))
