use Rattle.checks.proofs.header.size_fault.Goals as goal

pub returns : goal.returns
returns c = simp (c.side_fault.ensures, c.side_fault-2.ensures)
