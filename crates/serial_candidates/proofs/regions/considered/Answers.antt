use native.Mathlib.Omega.{arith}
use borrow.Author.Tests.{ne_eqb}
use Rattle.serial_candidates.proofs.regions.considered.Goals as goal

pub returns-then-mark-eq1 : goal.returns-then-mark-eq1
returns-then-mark-eq1 c = let e = c.if-mark-eq1.true in let f = c.nearer.ensures.0 in let g = c.nearer-then-mark-eq1.ensures.0 in
    (rw (e, g, f), c.nearer-then-mark-eq1.ensures.1)

pub returns : goal.returns
returns c = let e = ne_eqb _ _ c.if-mark-eq1.false in (rw e, omega (arith, c.ranges.best))
