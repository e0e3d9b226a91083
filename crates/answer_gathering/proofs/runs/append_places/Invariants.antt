use Rattle.std.proofs.Common.{◌+◌}
use Rattle.order.specs.Lists.{up_from}
use Rattle.answer_gathering.specs.Runs.{Appended}
use Rattle.answer_gathering.proofs.runs.append_places.Given as goal

abbrev pub invariant-loop-k : goal.invariant-loop-k
invariant-loop-k l = Appended l.initial.seen l.to (up_from l.p l.k) l.seen (l.to + l.k)
