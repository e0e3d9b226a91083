use Rattle.answer_sources.specs.Squeezed.{KeysRead}
use Rattle.answer_sources.proofs.keys.read_keys.Given as goal

abbrev pub invariant-loop-q : goal.invariant-loop-q
invariant-loop-q l = KeysRead l.job l.from l.q l.starts l.counts l.initial.keys l.keys
