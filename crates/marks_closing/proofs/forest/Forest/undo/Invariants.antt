use Rattle.marks_closing.specs.Tables.{tables, SameSlices}
use Rattle.marks_closing.proofs.Undoes.{Undoing}
use Rattle.marks_closing.proofs.forest.Forest.undo.Given as goal

abbrev pub invariant-loop-k : goal.invariant-loop-k
invariant-loop-k l = Undoing (tables l.initial.lent) l.n l.m (tables l.lent) l.k × SameSlices l.initial.lent l.lent
