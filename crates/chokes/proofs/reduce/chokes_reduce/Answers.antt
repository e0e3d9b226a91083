use Rattle.chokes.proofs.reduce.chokes_reduce.Goals as goal

pub returns : goal.returns
returns c = rw (c.from.ensures.0, c.from.ensures.1) c.reduce-answered.ensures
