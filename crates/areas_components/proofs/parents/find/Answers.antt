use Prim.Native.Nat.{◌+◌}
use native.Mathlib.Omega.{arith}
use Rattle.areas_components.proofs.FindLaws.{finding-start, finding-falls, finding-room, finding-root, finding-next, finding-end}
use Rattle.areas_components.proofs.FindLaws.{finding-second}
use Rattle.areas_components.proofs.parents.find.Goals as goal

pub loop-p-init : goal.loop-p-init
loop-p-init c = finding-start _ _ _ c.parent-p.ensures.0

pub parent-q-requires : goal.parent-q-requires
parent-q-requires c =
    let loop = c.loop-p in
    let pre = c.requires in
    finding-room pre loop.invariant loop.p (omega (arith, finding-falls pre loop.invariant, loop.invariant.below))

pub returns-then-q-p : goal.returns-then-q-p
returns-then-q-p c =
    let second = c.parent-q in
    let loop = c.loop-p in
    let pre = c.requires in
    finding-root pre loop.invariant _ second.ensures.0 second.ensures.1 c.if-q-p.true

pub set_parent-requires : goal.set_parent-requires
set_parent-requires c =
    let loop = c.loop-p in
    let pre = c.requires in
    (finding-room pre loop.invariant loop.at loop.invariant.below, c.parent-q.ensures.1)

pub parent-p-requires-in-loop-p : goal.parent-p-requires-in-loop-p
parent-p-requires-in-loop-p c =
    let second = c.parent-q in
    let finding = c.loop-p.invariant in
    let pre = c.requires in
    let below = finding-second pre finding second.result second.ensures.0 second.ensures.1 in
    let room = finding-room pre finding second.result (omega (arith, finding.below, finding-falls pre finding, below)) in
    omega (arith, c.set_parent.auto.work, room)

pub loop-p-smaller : goal.loop-p-smaller
loop-p-smaller c =
    let second = c.parent-q in
    let pre = c.requires in
    omega (arith, finding-second pre c.loop-p.invariant second.result second.ensures.0 second.ensures.1)

pub loop-p-preserved : goal.loop-p-preserved
loop-p-preserved c =
    let second = c.parent-q in
    let pre = c.requires in
    finding-next pre c.loop-p.invariant _ second.ensures.0 second.ensures.1
    _ c.set_parent.ensures _ c.parent-p-in-loop-p.ensures.0

pub returns : goal.returns
returns c =
    finding-end c.requires c.loop-p.invariant (λ l. omega arith)
