use Rattle.chokes.proofs.mark.chokes_mark.Goals as goal

pub returns : goal.returns
returns c = rw (c.from.ensures.0, c.from.ensures.1) c.mark-marked.ensures
