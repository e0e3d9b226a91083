use Rattle.std.proofs.Common.{◌+◌, ◌*◌, sym}
use Rattle.areas.proofs.geometry.cell_center.Goals as goal

pub returns-clause-value : goal.returns-clause-value
returns-clause-value c = λ g i e f. λ k. record { x = 8 * sym e k + 4; y = 8 * sym f k + 4 }
