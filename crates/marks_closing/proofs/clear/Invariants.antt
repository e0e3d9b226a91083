use Rattle.marks_closing.specs.Ranges.{ClearedForest}
use lib.ListN.{length}
use Prim.Native.Nat.{◌-◌, ◌≤◌}
use Rattle.marks_closing.proofs.clear.Given as goal

abbrev pub invariant-loop-i : goal.invariant-loop-i
invariant-loop-i l = (l.i ≤ length l.initial.parents) × ClearedForest (length l.initial.parents) l.i l.parents l.heights
