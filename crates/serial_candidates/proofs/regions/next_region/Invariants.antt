use mathlib.Core.Path.{◌≡◌}
use Prim.Native.Nat.{◌<◌}
use Rattle.serial_candidates.specs.Next.{next_after}
use Rattle.serial_candidates.proofs.regions.next_region.Given as goal

abbrev pub invariant-loop-i : goal.invariant-loop-i
invariant-loop-i l = record { least : l.best ≡ next_after l.linkables l.lowers l.highers l.after l.i; small : l.best < 4294967296 }
