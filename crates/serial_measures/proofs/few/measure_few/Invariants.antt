use lib.ListN.{length}
use Rattle.areas.specs.Words.{labels_in}
use Rattle.serial_links.specs.HeldLimits.{limits_of}
use Rattle.serial_measures.specs.Judging.{Judged}
use Rattle.serial_measures.proofs.few.measure_few.Given as goal

abbrev pub invariant-loop-k : goal.invariant-loop-k
invariant-loop-k l =
    Judged (limits_of l.limits) l.own l.bits l.regions l.firsts l.seconds (record { width = l.width; height = l.height; cells = l.cells })
    (labels_in l.work (length l.cells)) (length l.cells) l.k l.passing l.flat l.inside
