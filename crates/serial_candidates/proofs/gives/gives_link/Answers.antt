use Rattle.serial_candidates.proofs.gives.gives_link.Goals as goal

pub returns : goal.returns
returns c = let e = c.is_anchored-anchored.ensures in let f = c.joins_two-joins.ensures in rw (e, f)
