use Rattle.grid.specs.Steps.{leads_on}
use Rattle.grid.proofs.neighbors.leads_on.Goals as goal

pub returns : goal.returns
unfolding leads_on
returns c = λ g i e f h k. rw (h, k, e, f)
