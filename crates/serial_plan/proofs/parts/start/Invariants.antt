use Rattle.serial_plan.specs.Arrays.{FirstAre}
use Rattle.serial_plan.proofs.parts.start.Given as goal

abbrev pub invariant-loop-i : goal.invariant-loop-i
invariant-loop-i l = FirstAre (λ j. j) l.i l.parts
