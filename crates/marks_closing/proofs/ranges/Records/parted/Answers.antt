use mathlib.Core.Bool.{false}
use Prim.Native.Nat.{◌-◌}
use native.Mathlib.Omega.{arith}
use Rattle.marks_closing.proofs.Runs.{parted-none, parted-next, parted-here, parted-end}
use Rattle.marks_closing.proofs.ranges.Records.parted.Goals as goal

pub loop-k-init : goal.loop-k-init
loop-k-init c =
    (omega arith, omega arith, λ es f. parted-none es c.args.self.now.lefts.now c.args.self.now.rights.now c.args.from)

pub bounds-self-k : goal.bounds-self-k
bounds-self-k c =
    omega (arith, c.requires.1.lefts-are)

pub find-left-requires : goal.find-left-requires
find-left-requires c =
    let p = c.requires in
    (p.2, p.1.left_in c.loop-k.k c.loop-k-test.true)

pub bounds-self-k-in-loop-k : goal.bounds-self-k-in-loop-k
bounds-self-k-in-loop-k c =
    omega (arith, c.requires.1.rights-are)

pub find-right-requires : goal.find-right-requires
find-right-requires c =
    let p = c.requires in
    (p.2, p.1.right-in c.loop-k.k c.loop-k-test.true)

pub returns-then-left-right : goal.returns-then-left-right
returns-then-left-right c =
    let a = c.args in
    λ es f. parted-here es a.self.now.lefts.now a.self.now.rights.now a.from f c.loop-k.invariant.0 c.find-left.ensures c.find-right.ensures
    (λ e. omega (arith, e, c.if-left-right.true)) a.to c.loop-k-test.true

pub loop-k-preserved : goal.loop-k-preserved
loop-k-preserved c =
    let a = c.args in (
      omega arith,
      omega arith,
      λ es f. parted-next es a.self.now.lefts.now a.self.now.rights.now a.from f c.loop-k.invariant.0 c.find-left.ensures c.find-right.ensures
          (omega (arith, c.if-left-right.false)) (c.loop-k.invariant.2 es f),
    )

pub returns : goal.returns
returns c =
    let a = c.args in
    λ es f. parted-end es a.self.now.lefts.now a.self.now.rights.now a.from (omega arith) (c.loop-k.invariant.2 es f)
