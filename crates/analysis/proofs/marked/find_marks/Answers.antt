use native.Mathlib.Omega.{arith}
use Rattle.analysis.proofs.Within.{parted-wider, parted-again}
use Rattle.analysis.proofs.marked.find_marks.Goals as goal

pub returns-then-pairs-le-FEW_PAIRS : goal.returns-then-pairs-le-FEW_PAIRS
returns-then-pairs-le-FEW_PAIRS c =
    parted-wider c.marks_within-pairs.ensures (omega arith) (omega arith)

pub returns : goal.returns
returns c =
    parted-again c.marks_within-pairs.ensures c.marks_within-2.ensures
