use mathlib.Core.Bool.{cond}
use Prim.Native.Nat.{ℕ}
use lib.Dec.{eqb}
use Rattle.serial_plan.proofs.ArrayLaws.{Mapped}
use Rattle.serial_plan.proofs.parts.join_parts.Given as goal

abbrev pub invariant-loop-i : goal.invariant-loop-i
invariant-loop-i l = Mapped (λ (x : ℕ). cond (eqb x l.high) l.low x) l.i l.initial.parts l.parts
