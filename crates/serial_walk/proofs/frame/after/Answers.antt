use mathlib.Core.Path.{refl}
use Rattle.serial_walk.proofs.frame.after.Goals as goal

pub returns-then-lefts-j : goal.returns-then-lefts-j
returns-then-lefts-j c = record { left = λ z. refl; right = λ n. absurd (n c.if-lefts-j.true) }

pub returns : goal.returns
returns c = record { left = λ z. absurd (c.if-lefts-j.false z); right = λ n. refl }
