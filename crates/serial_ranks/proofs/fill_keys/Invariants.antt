use Rattle.serial_ranks.specs.Tables.{KeysOf}
use Rattle.serial_ranks.proofs.fill_keys.Given as goal

abbrev pub invariant-loop-i : goal.invariant-loop-i
invariant-loop-i l = KeysOf l.s l.at 40 l.i l.first l.second
