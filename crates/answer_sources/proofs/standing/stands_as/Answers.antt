use Rattle.std.proofs.Common.{eq-eqb, arith}
use borrow.Author.Tests.{ne_eqb}
use Rattle.answer_sources.proofs.standing.stands_as.Goals as goal

pub returns-then-observations-ne0 : goal.returns-then-observations-ne0
returns-then-observations-ne0 c = rw (ne_eqb _ 0 c.if-observations-ne0.true)

pub returns-then-among-eq1 : goal.returns-then-among-eq1
returns-then-among-eq1 c = rw (eq-eqb _ 0 c.if-observations-ne0.false, eq-eqb c.args.among 1 (omega arith))

pub returns : goal.returns
returns c = rw (eq-eqb _ 0 c.if-observations-ne0.false, ne_eqb c.args.among 1 (λ e. omega arith))
