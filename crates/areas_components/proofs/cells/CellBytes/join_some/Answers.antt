use Prim.Native.Nat.{◌-◌}
use native.Mathlib.Omega.{arith}
use Rattle.areas_components.proofs.StepLaws.{joinable-ready, partly-start, partly-next, partly-end}
use Rattle.areas_components.proofs.cells.CellBytes.join_some.Goals as goal

pub loop-i-init : goal.loop-i-init
loop-i-init c = partly-start c.requires.0 c.requires.1

pub join_cell-requires : goal.join_cell-requires
join_cell-requires c =
    let g = c.loop-i.invariant.able in
    let pre = c.requires in
    (g.some, g.narrow, omega (arith, g.few, pre.2), joinable-ready g (omega (arith, pre.2)))

pub loop-i-preserved : goal.loop-i-preserved
loop-i-preserved c =
    partly-next c.loop-i.invariant (omega arith) c.requires.2 c.join_cell.ensures

pub returns : goal.returns
returns c = partly-end c.loop-i.invariant (λ l. omega arith)
