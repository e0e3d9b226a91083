use mathlib.Core.Path.{◌≡◌}
use mathlib.Core.List.{List}
use lib.ListN.{length}
use Prim.Native.Nat.{ℕ}
use Rattle.serial_bridges.specs.Names.{Forgotten}
use Rattle.serial_bridges.proofs.numbering.forget_all.Given as goal

abbrev pub invariant-loop-k : goal.invariant-loop-k
invariant-loop-k l = record {
  as_long : length l.work ≡ length l.initial.work;
  forgotten : (start : List ℕ) → Forgotten l.count l.lefts l.rights l.regions l.base start l.initial.work 0 →
      Forgotten l.count l.lefts l.rights l.regions l.base start l.work l.k;
}
