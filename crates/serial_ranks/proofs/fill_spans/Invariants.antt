use Rattle.serial_ranks.specs.Tables.{SpansOf}
use Rattle.serial_ranks.proofs.fill_spans.Given as goal

abbrev pub invariant-loop-i : goal.invariant-loop-i
invariant-loop-i l = SpansOf l.s l.at l.stride l.order l.i l.ends
