use Rattle.areas.specs.Words.{labels_in}
use Rattle.serial_links.specs.HeldLimits.{limits_of}
use Rattle.serial_measures.specs.Judging.{AllCells}
use Rattle.serial_measures.proofs.few.measure_one.Given as goal

abbrev pub invariant-loop-i : goal.invariant-loop-i
invariant-loop-i l = AllCells (limits_of l.limits) l.width (labels_in l.labels l.n) l.region l.i l.initial.link l.link
