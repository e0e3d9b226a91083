use Rattle.context.specs.FullPair.{other_region}
use borrow.Author.Tests.{eq-eqb, ne_eqb}
use Rattle.context.proofs.pairs.other_region.Goals as goal

pub returns-then-lower-region : goal.returns-then-lower-region
unfolding other_region
returns-then-lower-region c = let e = eq-eqb _ _ c.if-lower-region.true in rw e

pub returns-else-lower-region : goal.returns-else-lower-region
unfolding other_region
returns-else-lower-region c = let e = ne_eqb _ _ c.if-lower-region.false in rw e
