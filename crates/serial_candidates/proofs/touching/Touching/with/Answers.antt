use Rattle.serial_candidates.proofs.touching.Touching.with.Goals as goal

pub returns : goal.returns
returns c = let e = c.pick.ensures in let f = c.pick-2.ensures in rw (e, f)
