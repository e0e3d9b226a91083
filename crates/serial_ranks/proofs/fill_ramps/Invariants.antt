use Rattle.serial_ranks.specs.Tables.{RampsOf}
use Rattle.serial_ranks.proofs.fill_ramps.Given as goal

abbrev pub invariant-loop-i : goal.invariant-loop-i
invariant-loop-i l = RampsOf l.s l.at l.order l.i l.ramps
