use mathlib.Core.Path.{◌∙◌}
use native.Mathlib.Omega.{arith}
use Rattle.areas_components.proofs.DueBytes.{before-next}
use Rattle.areas_components.proofs.cells.CellBytes.byte_before.Goals as goal

pub returns : goal.returns
returns c =
    let args = c.args in
    c.byte_at.ensures ∙ before-next args.work.now args.self.base args.self.n c.requires args.k (omega arith)
