use Rattle.std.proofs.Common.{◌-◌}
use Rattle.marks_closing.specs.Tables.{tables}
use Rattle.marks_closing.proofs.Turns.{Turning}
use Rattle.marks_closing.proofs.ranges.Records.+close_range.Given as goal

-- a call is for fewer boundaries
abbrev pub decreases-close_range : goal.decreases-close_range
decreases-close_range l = l.hi - l.lo

abbrev pub invariant-loop-b : goal.invariant-loop-b
invariant-loop-b l =
    Turning l.self.owners.now l.self.lefts.now l.self.rights.now l.self.count l.from l.to l.lo l.hi
    (tables l.initial.forest) l.n l.initial.marks
    l.a l.b (tables l.forest) l.m l.marks

abbrev pub decreases-loop-b : goal.decreases-loop-b
decreases-loop-b l = l.hi - l.b
