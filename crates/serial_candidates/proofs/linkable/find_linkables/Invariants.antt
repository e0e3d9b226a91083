use mathlib.Core.Path.{◌≡◌}
use lib.ListN.{length}
use Rattle.serial_candidates.specs.Linkable.{can_link, Flags}
use Rattle.serial_candidates.proofs.linkable.find_linkables.Given as goal

abbrev pub invariant-loop-i : goal.invariant-loop-i
invariant-loop-i l = record {
  whole : length l.linkables ≡ 256;
  marked : Flags (can_link l.own l.ramps l.removed l.separated l.counts) l.i l.linkables;
}
