use Rattle.std.proofs.Common.{◌≡◌}
use Rattle.wire.specs.Bytes.{splice}
use Rattle.answer_sources.proofs.KeysRead.{numbers_of}
use Rattle.answer_sources.proofs.keys.read_part.Given as goal

abbrev pub invariant-loop-i : goal.invariant-loop-i
invariant-loop-i l = l.keys ≡ splice l.initial.keys l.a (numbers_of l.job l.from l.a l.i)
