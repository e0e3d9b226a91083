use native.Mathlib.Omega.{arith}
use Rattle.areas_components.proofs.StepLaws.{joined-zero}
use Rattle.areas_components.proofs.steps.join_cell.Goals as goal

pub returns-then-byte-eq0 : goal.returns-then-byte-eq0
returns-then-byte-eq0 c = joined-zero _ _ _ _ (omega arith)
