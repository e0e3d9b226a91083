use native.Mathlib.Omega.{arith}
use Rattle.lists.specs.Rows.{at}
use Rattle.serial_walk.proofs.Leaving.{mark_set, mark-kept}
use Rattle.serial_walk.proofs.stack.leave.Goals as goal

pub returns-then-time_of-low-clause-mark : goal.returns-then-time_of-low-clause-mark
returns-then-time_of-low-clause-mark c =
    let a = c.args in
    mark_set (at a.disc.now (at a.stack.now a.up)) a.f.low a.marks.now (at a.owners.now a.f.parent) (omega (arith, c.if-time_of-low.true, c.time_of.ensures))

pub returns-else-time_of-low-clause-mark : goal.returns-else-time_of-low-clause-mark
returns-else-time_of-low-clause-mark c =
    let a = c.args in
    mark-kept (at a.disc.now (at a.stack.now a.up)) a.f.low a.marks.now (at a.owners.now a.f.parent)
    (omega (arith, c.if-time_of-low.false, c.time_of.ensures))
