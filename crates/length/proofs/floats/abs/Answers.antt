use Rattle.length.proofs.Picks.{picks_first, picks_second}
use Rattle.length.proofs.floats.abs.Goals as goal

pub returns-then-a : goal.returns-then-a
returns-then-a c = picks_first _ _ _ c.if-a.true

pub returns-else-a : goal.returns-else-a
returns-else-a c = picks_second _ _ _ c.if-a.false
