use Rattle.areas_components.proofs.DueBytes.{at_on, at-past}
use Rattle.areas_components.proofs.cells.CellBytes.byte_at.Goals as goal

pub returns-then-k-self : goal.returns-then-k-self
returns-then-k-self c =
    at_on c.args.work.now c.args.self.base c.args.self.n c.requires c.args.k c.if-k-self.true

pub returns : goal.returns
returns c =
    at-past c.args.work.now c.args.self.base c.args.self.n c.requires c.args.k c.if-k-self.false
