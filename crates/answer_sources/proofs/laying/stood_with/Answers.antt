use Rattle.std.proofs.Common.{arith, eq-eqb}
use borrow.Author.Tests.{ne_eqb}
use Rattle.answer_sources.proofs.laying.stood_with.Goals as goal

pub returns-then-stands-eq1 : goal.returns-then-stands-eq1
returns-then-stands-eq1 c = (rw (eq-eqb c.args.stands 1 (omega arith)), omega arith)

pub returns : goal.returns
returns c = (rw (ne_eqb c.args.stands 1 (λ e. omega arith)), omega arith)
