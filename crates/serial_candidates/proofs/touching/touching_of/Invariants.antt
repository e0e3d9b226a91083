use mathlib.Core.Path.{◌≡◌}
use Prim.Native.Nat.{◌≤◌}
use Rattle.graph.specs.Records.{record_in}
use Rattle.serial_candidates.specs.Touchers.{touching_after}
use Rattle.serial_candidates.proofs.touching.touching_of.Given as goal

abbrev pub invariant-loop-k : goal.invariant-loop-k
invariant-loop-k l = record { touching : l.t ≡ touching_after (record_in l.owners l.lefts l.rights) l.region l.k; few : l.t.count ≤ l.k }
