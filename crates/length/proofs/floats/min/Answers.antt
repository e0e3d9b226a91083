use Rattle.length.proofs.Picks.{picks_first, picks_second}
use Rattle.length.proofs.floats.min.Goals as goal

pub returns-then-b-a : goal.returns-then-b-a
returns-then-b-a c = picks_first _ _ _ c.if-b-a.true

pub returns-else-b-a : goal.returns-else-b-a
returns-else-b-a c = picks_second _ _ _ c.if-b-a.false
