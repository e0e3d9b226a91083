use Prim.Native.Nat.{◌-◌}
use lib.ListN.{length}
use Rattle.areas_components.specs.Numbered.{walks}
use Rattle.areas_components.proofs.NumberLaws.{Numbering}
use Rattle.areas_components.proofs.numbers.number.Given as goal

abbrev pub invariant-loop-i : goal.invariant-loop-i
invariant-loop-i l = Numbering (length l.cells) l.i l.count (walks l.cells) l.initial.work l.work
