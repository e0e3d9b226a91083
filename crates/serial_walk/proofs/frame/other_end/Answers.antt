use mathlib.Core.Path.{refl}
use mathlib.Core.Logic.{⊎_elim}
use Rattle.serial_walk.specs.Walk.{forth, back}
use Rattle.serial_walk.proofs.frame.other_end.Goals as goal

pub returns-then-lefts-j : goal.returns-then-lefts-j
returns-then-lefts-j c = forth c.if-lefts-j.true refl

pub returns : goal.returns
returns c = back refl (⊎_elim (λ z. absurd (c.if-lefts-j.false z)) (λ z. z) c.requires.2)
