use Rattle.answer_encoding.proofs.Loops.{Writes}
use Rattle.answer_encoding.proofs.Owns.{own_bytes}
use Rattle.answer_encoding.proofs.own.write_places.Given as goal

abbrev pub invariant-loop-i : goal.invariant-loop-i
invariant-loop-i l = Writes l.initial.s l.at (own_bytes l.job l.from l.owned l.a) l.i l.s
