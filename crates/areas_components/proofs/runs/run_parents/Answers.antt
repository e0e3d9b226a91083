use mathlib.Core.Path.{refl}
use Prim.Native.Nat.{◌-◌}
use native.Mathlib.Omega.{arith}
use Rattle.areas_components.proofs.RunLaws.{running-start, running-small, running-room, running-next, running-end}
use Rattle.areas_components.proofs.runs.run_parents.Goals as goal

pub loop-i-init : goal.loop-i-init
loop-i-init c = running-start _ _ _

pub set_parent-requires : goal.set_parent-requires
set_parent-requires c =
    let pre = c.requires in
    let loop = c.loop-i in
    let pick = c.pick-first in
    let small = running-small pre.0 pre.1 pre.2 loop.invariant (omega arith) _ pick.ensures in
    (running-room pre.0 pre.1 pre.2 loop.invariant (omega arith) _ pick.ensures, omega (arith, small, pre))

pub loop-i-preserved : goal.loop-i-preserved
loop-i-preserved c =
    let pre = c.requires in
    let loop = c.loop-i in
    let pick = c.pick-first in
    let set = c.set_parent in
    running-next pre.0 pre.1 pre.2 loop.invariant (omega arith) _ pick.ensures _ set.ensures _ refl

pub returns : goal.returns
returns c = running-end c.loop-i.invariant (λ l. omega arith)
