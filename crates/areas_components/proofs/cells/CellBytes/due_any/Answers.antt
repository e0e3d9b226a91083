use Rattle.areas_components.proofs.DueBytes.{due-from}
use Rattle.areas_components.proofs.cells.CellBytes.due_any.Goals as goal

pub returns : goal.returns
returns c =
    let below = c.byte_at in
    let under = c.byte_before-e in
    let left = c.byte_before-l in
    let own = c.byte_at-v in
    due-from _ _ _ _ _ _ _ _ c.due_of.ensures own.ensures left.ensures under.ensures below.ensures
