use mathlib.Core.Path.{◌≡◌}
use Prim.Native.Nat.{◌<◌}
use Rattle.serial_candidates.specs.Next.{next_after}
use Rattle.serial_candidates.specs.Found.{given, Collected}
use Rattle.serial_candidates.proofs.CollectLaws.{left}
use Rattle.serial_candidates.proofs.collect.collect.Given as goal

abbrev pub invariant-loop-region : goal.invariant-loop-region
invariant-loop-region l = record {
  next : l.region ≡ next_after l.linkables l.lowers l.highers l.after l.n;
  small : l.region < 4294967296;
  collected : Collected (given l.anchors l.own l.linkables l.lowers l.highers l.owners l.lefts l.rights l.records) l.n l.after l.count l.regions l.firsts
      l.seconds;
}

abbrev pub decreases-loop-region : goal.decreases-loop-region
decreases-loop-region l = left l.region
