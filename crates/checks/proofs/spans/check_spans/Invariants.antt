use Rattle.checks.proofs.Firsts.{Clean}
use Rattle.checks.specs.Single.{span_check}
use Rattle.checks.proofs.spans.check_spans.Given as goal

abbrev pub invariant-loop-i : goal.invariant-loop-i
invariant-loop-i l = Clean (span_check l.list l.width l.height) l.n l.i
