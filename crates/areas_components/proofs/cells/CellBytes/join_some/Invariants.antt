use Prim.Native.Nat.{◌-◌}
use Rattle.areas_components.proofs.StepLaws.{Partly}
use Rattle.areas_components.proofs.cells.CellBytes.join_some.Given as goal

abbrev pub invariant-loop-i : goal.invariant-loop-i
invariant-loop-i l = Partly l.self.n l.self.width l.self.base l.from l.to l.i l.initial.work l.work
