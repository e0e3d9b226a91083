use Rattle.answer_text.proofs.Spelling.{Spelt}
use Rattle.answer_text.proofs.digits.write_digits.Given as goal

abbrev pub invariant-loop-i : goal.invariant-loop-i
invariant-loop-i l = Spelt l.base l.k l.v l.initial.out l.at l.out l.i l.rest
