use mathlib.Core.Path.{refl, sym, ◌∙◌}
use Rattle.marks_closing.proofs.Starts.{cleared-start, cleared-next, cleared-end}
use native.Mathlib.Omega.{arith}
use Prim.Native.Nat.{◌-◌}
use Rattle.marks_closing.proofs.clear.Goals as goal

pub loop-i-init : goal.loop-i-init
loop-i-init c = (omega arith, cleared-start c.args.parents.now c.args.heights.now refl c.requires.0)

pub bounds-heights-i : goal.bounds-heights-i
bounds-heights-i c =
    omega (arith, c.loop-i-test.true, c.loop-i.invariant.1.parents-are, c.loop-i.invariant.1.heights-are)

pub loop-i-preserved : goal.loop-i-preserved
loop-i-preserved c = (
  omega (arith, c.loop-i-test.true, c.loop-i.invariant.1.parents-are),
  cleared-next c.loop-i.invariant.1
      (omega (arith, c.loop-i-test.true, c.loop-i.invariant.1.parents-are)),
)

pub shape_of-parents : goal.shape_of-parents
shape_of-parents c = c.loop-i.invariant.1.parents-are

pub shape_of-heights : goal.shape_of-heights
shape_of-heights c = c.loop-i.invariant.1.heights-are ∙ sym c.requires.0

pub returns : goal.returns
returns c =
    cleared-end (omega (arith, c.loop-i-test.false, c.loop-i.invariant.1.parents-are)) c.loop-i.invariant.1
