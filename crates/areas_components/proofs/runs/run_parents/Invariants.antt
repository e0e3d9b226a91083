use Prim.Native.Nat.{◌-◌}
use Rattle.areas_components.proofs.RunLaws.{Running}
use Rattle.areas_components.proofs.runs.run_parents.Given as goal

abbrev pub invariant-loop-i : goal.invariant-loop-i
invariant-loop-i l = Running l.n l.base l.i l.first l.joined l.initial.work l.work
