use Rattle.serial_bridges.proofs.Unmarked.{no-records}
use Rattle.serial_bridges.proofs.bridge_boundary_indices.Goals as goal

pub returns-then-count-eq0-clause-marks : goal.returns-then-count-eq0-clause-marks
returns-then-count-eq0-clause-marks c = no-records _ _ _ _ c.if-count-eq0.true 256
