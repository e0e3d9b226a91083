use Prim.Native.Nat.{◌*◌}
use Rattle.areas_components.specs.Joining.{Joining}
use Rattle.areas_components.proofs.cells.CellBytes.join_all.Given as goal

abbrev pub invariant-loop-k : goal.invariant-loop-k
invariant-loop-k l = Joining l.self.n l.self.width l.self.base (64 * l.k) l.initial.work l.work
