use Rattle.checks.proofs.spans.ends_fault.Goals as goal

pub returns : goal.returns
returns c = simp (c.position_fault.ensures, c.position_fault-2.ensures)
