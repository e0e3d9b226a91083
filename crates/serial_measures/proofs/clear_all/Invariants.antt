use mathlib.Core.Path.{◌≡◌}
use mathlib.Core.List.{List}
use Prim.Native.Nat.{ℕ}
use lib.ListN.{length}
use Rattle.serial_measures.specs.Tables.{Written, Cleared, Labels}
use Rattle.serial_measures.proofs.clear_all.Given as goal

abbrev pub invariant-loop-k : goal.invariant-loop-k
invariant-loop-k l = record {
  as_long : length l.work ≡ length l.initial.work;
  cleared : (start : List ℕ) → Labels start l.n → Written start l.initial.work l.n l.regions l.links → Cleared start l.work l.n l.regions l.links l.k;
}
