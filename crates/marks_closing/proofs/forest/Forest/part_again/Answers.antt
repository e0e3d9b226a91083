use Rattle.marks_closing.proofs.forest.Forest.part_again.Goals as goal

pub returns-clause-taken_back : goal.returns-clause-taken_back
returns-clause-taken_back c = rw c.parent-high.ensures
