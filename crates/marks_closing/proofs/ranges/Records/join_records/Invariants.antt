use Prim.Native.Nat.{◌-◌, ◌≤◌}
use Rattle.marks_closing.specs.Tables.{tables, SameSlices}
use Rattle.marks_closing.specs.Log.{GrownForest, adding}
use Rattle.marks_closing.proofs.ranges.Records.join_records.Given as goal

-- the records before k are joined
abbrev pub invariant-loop-k : goal.invariant-loop-k
invariant-loop-k l =
    (l.from ≤ l.k) × (l.k ≤ l.to)
    × GrownForest (adding l.self.lefts.now l.self.rights.now l.from (l.k - l.from)) (l.k - l.from) (tables l.initial.lent) l.n
    (tables l.lent) l.m × SameSlices l.initial.lent l.lent
