use Rattle.std.proofs.Common.{◌+◌}
use Rattle.answer_encoding.specs.Pieces.{key_piece}
use Rattle.answer_encoding.proofs.Loops.{Writes}
use Rattle.answer_encoding.proofs.runs.write_run.Given as goal

abbrev pub invariant-loop-i : goal.invariant-loop-i
invariant-loop-i l = Writes l.initial.s l.at (λ k. key_piece l.keys (l.from + k)) l.i l.s
