use Rattle.areas.specs.Strip.{line_at}
use Rattle.areas.proofs.candidates.line_at.Goals as goal

pub returns : goal.returns
unfolding line_at
returns c = simp (c.product.ensures.0, c.product-2.ensures.0)
