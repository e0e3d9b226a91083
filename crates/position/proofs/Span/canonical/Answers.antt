use Rattle.std.proofs.Common.{refl}
use Rattle.position.specs.Order.{canonical}
use Rattle.position.proofs.Span.canonical.Goals as goal

pub returns-then-le : goal.returns-then-le
unfolding canonical
returns-then-le c = rw (← c.le.ensures, c.if-le.true) refl

pub returns-else-le : goal.returns-else-le
unfolding canonical
returns-else-le c = rw (← c.le.ensures, c.if-le.false) refl
