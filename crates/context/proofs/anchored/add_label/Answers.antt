use Rattle.std.proofs.Common.{refl}
use Rattle.context.proofs.Bases.{none-added, one-added}
use Rattle.context.proofs.anchored.add_label.Goals as goal

pub returns-then-x-y : goal.returns-then-x-y
returns-then-x-y c = none-added c.if-x-y.true

pub returns : goal.returns
returns c = one-added c.args.labels.now c.if-x-y.false (c.requires.1.on c.if-x-y.false) c.requires.2 c.read_u32.ensures refl
