use native.Mathlib.Omega.{arith}
use Rattle.areas_components.proofs.DueBytes.{writing_start, writing-next, writing-end}
use Rattle.areas_components.proofs.cells.CellBytes.write_some.Goals as goal

pub loop-i-init : goal.loop-i-init
loop-i-init g c = writing_start _ c.requires.in_bounds.1

pub loop-i-preserved : goal.loop-i-preserved
loop-i-preserved g c =
    let pre = c.requires in
    let writing = c.loop-i.invariant in
    writing-next pre.in_bounds.0 pre.in_bounds.2 writing (omega arith) _
    (pre.gives_due _ _ _ (omega (arith, writing.long)) writing.above (omega arith) c.due-byte.ensures)

pub returns : goal.returns
returns g c = writing-end c.loop-i.invariant (λ l. omega arith)
