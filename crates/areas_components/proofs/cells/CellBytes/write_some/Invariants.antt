use Rattle.areas_components.proofs.DueBytes.{Writing}
use Rattle.areas_components.proofs.cells.CellBytes.write_some.Given as goal

abbrev pub invariant-loop-i : goal.invariant-loop-i
invariant-loop-i g l = Writing l.self.n l.self.width l.self.base l.from l.to l.i l.initial.work l.work
