use Prim.Native.Nat.{◌-◌}
use Rattle.marks_closing.proofs.Finds.{finding-start, finding-inside, finding-less, finding-next, finding-end}
use Rattle.marks_closing.proofs.forest.Forest.find.Goals as goal

pub loop-up-init : goal.loop-up-init
loop-up-init c =
    finding-start c.requires.1 c.parent-up.ensures

pub parent-up-requires-in-loop-up : goal.parent-up-requires-in-loop-up
parent-up-requires-in-loop-up c = finding-inside c.requires.0 c.loop-up.invariant

pub loop-up-smaller : goal.loop-up-smaller
loop-up-smaller c =
    finding-less c.requires.0 c.loop-up.invariant c.loop-up-test.true

pub loop-up-preserved : goal.loop-up-preserved
loop-up-preserved c =
    finding-next c.requires.0 c.loop-up.invariant c.parent-up-in-loop-up.ensures

pub returns : goal.returns
returns c = finding-end c.requires.0 c.loop-up.invariant c.loop-up-test.false
