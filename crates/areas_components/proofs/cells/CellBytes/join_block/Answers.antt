use Rattle.areas_components.proofs.StepLaws.{joining-skip}
use Rattle.areas_components.proofs.cells.CellBytes.join_block.Goals as goal

pub returns-then-clear : goal.returns-then-clear
returns-then-clear c =
    λ r h. joining-skip 64 c.requires.0 c.requires.1 (c.clear.ensures c.if-clear.true) h
