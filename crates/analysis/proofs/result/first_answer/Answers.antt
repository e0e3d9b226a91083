use Rattle.analysis.proofs.result.first_answer.Goals as goal

pub returns : goal.returns
returns c = rw (c.from.ensures.0, c.from.ensures.1) c.check_room.ensures
