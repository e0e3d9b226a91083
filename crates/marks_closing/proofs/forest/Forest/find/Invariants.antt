use Prim.Native.Nat.{◌-◌}
use Rattle.lists.specs.Rows.{at, sum}
use Rattle.marks_closing.proofs.Finds.{Finding}
use Rattle.marks_closing.proofs.forest.Forest.find.Given as goal

abbrev pub invariant-loop-up : goal.invariant-loop-up
invariant-loop-up l = Finding l.self.parents.now l.x l.here l.up

-- each step leads to a greater height
abbrev pub decreases-loop-up : goal.decreases-loop-up
decreases-loop-up l = sum l.self.heights.now - at l.self.heights.now l.here
