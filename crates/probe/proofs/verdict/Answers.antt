use borrow.Author.Tests.{eq-eqb, ne_eqb}
use Rattle.probe.specs.Probe.{checked}
use Rattle.probe.proofs.verdict.Goals as goal

pub returns-then-call-eq0 : goal.returns-then-call-eq0
unfolding checked
returns-then-call-eq0 c = rw (eq-eqb _ _ c.if-call-eq0.true) c.check_reduce.ensures

pub returns-then-call-eq1 : goal.returns-then-call-eq1
unfolding checked
returns-then-call-eq1 c = rw (ne_eqb _ _ c.if-call-eq0.false, eq-eqb _ _ c.if-call-eq1.true) c.check_reduce_by_list.ensures

pub returns : goal.returns
unfolding checked
returns c = rw (ne_eqb _ _ c.if-call-eq0.false, ne_eqb _ _ c.if-call-eq1.false) c.check_mark.ensures
