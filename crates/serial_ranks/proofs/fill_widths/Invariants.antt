use Rattle.serial_ranks.specs.Tables.{WidthsOf}
use Rattle.serial_ranks.proofs.fill_widths.Given as goal

abbrev pub invariant-loop-i : goal.invariant-loop-i
invariant-loop-i l = WidthsOf l.s l.at l.order l.i l.bits
