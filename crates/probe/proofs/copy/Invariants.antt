use Rattle.probe.proofs.WritingLaws.{Started}
use Rattle.probe.proofs.copy.Given as goal

abbrev pub invariant-loop-k : goal.invariant-loop-k
invariant-loop-k l = Started l.initial.out l.part l.out l.k
