use mathlib.Core.Path.{◌≡◌}
use mathlib.Core.Bool.{false}
use mathlib.Core.List.{List}
use Prim.Native.Nat.{◌-◌, ◌≤◌}
use Rattle.graph.specs.Path.{Edge}
use Rattle.marks_closing.specs.Forest.{RootedForest}
use Rattle.marks_closing.specs.Ranges.{some_parted}
use Rattle.marks_closing.proofs.ranges.Records.parted.Given as goal

-- no record before k is parted
abbrev pub invariant-loop-k : goal.invariant-loop-k
invariant-loop-k l =
    (l.from ≤ l.k) × (l.k ≤ l.to)
    × ((es : List Edge) → RootedForest es l.forest.parents.now → some_parted es l.self.lefts.now l.self.rights.now l.from (l.k - l.from) ≡ false)
