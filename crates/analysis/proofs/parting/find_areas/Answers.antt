use native.Mathlib.Omega.{arith}
use Rattle.analysis.proofs.Within.{parted-wider, parted-again}
use Rattle.analysis.proofs.parting.find_areas.Goals as goal

pub returns-then-pairs-le-FEW_PAIRS : goal.returns-then-pairs-le-FEW_PAIRS
returns-then-pairs-le-FEW_PAIRS c =
    parted-wider c.areas_within-p.ensures (omega arith) (omega arith)

pub returns : goal.returns
returns c =
    parted-again c.areas_within-p.ensures c.areas_within-2.ensures
