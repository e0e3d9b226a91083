use mathlib.Core.Path.{◌≡◌}
use Prim.Native.Nat.{◌+◌, ◌*◌, ◌<◌}
use lib.ListN.{length}
use Rattle.areas.specs.Words.{labels_in}
use Rattle.serial_links.specs.HeldLimits.{limits_of}
use Rattle.serial_measures.specs.Judging.{EmptyLinks, Running, Judged}
use Rattle.serial_measures.proofs.measure_all.Given as goal

abbrev pub invariant-loop-k : goal.invariant-loop-k
invariant-loop-k l = EmptyLinks l.own l.bits l.firsts l.seconds l.k l.table

abbrev pub invariant-loop-i : goal.invariant-loop-i
invariant-loop-i l = record {
  place : l.row * l.width + l.column ≡ l.i;
  on : l.column < l.width;
  running : Running (limits_of l.limits) l.own l.bits l.regions l.firsts l.seconds (record { width = l.width; height = l.height; cells = l.cells })
      (labels_in l.work (length l.cells)) l.links l.i l.table l.stats;
}

abbrev pub invariant-loop-m : goal.invariant-loop-m
invariant-loop-m l =
    Judged (limits_of l.limits) l.own l.bits l.regions l.firsts l.seconds (record { width = l.width; height = l.height; cells = l.cells })
    (labels_in l.work (length l.cells)) (length l.cells) l.m l.passing l.flat l.inside
