use Rattle.length.proofs.Picks.{picks_first, picks_second}
use Rattle.length.proofs.floats.max.Goals as goal

pub returns-then-a-b : goal.returns-then-a-b
returns-then-a-b c = picks_first _ _ _ c.if-a-b.true

pub returns-else-a-b : goal.returns-else-a-b
returns-else-a-b c = picks_second _ _ _ c.if-a-b.false
