use mathlib.Core.Path.{refl, ◌∙◌}
use native.Mathlib.Omega.{arith}
use Rattle.serial_walk.proofs.Roots.{passed}
use Rattle.serial_walk.proofs.walk.visit.Goals as goal

pub time_of-requires : goal.time_of-requires
time_of-requires c =
    omega (arith, c.requires.0.graph.left_in _ c.requires.2, c.requires.0.sized.disc-are)

pub returns-then-time_of-ne0 : goal.returns-then-time_of-ne0
returns-then-time_of-ne0 c =
    passed c.requires.0 (λ z. c.if-time_of-ne0.true (c.time_of.ensures ∙ z))

pub walk-requires : goal.walk-requires
walk-requires c =
    let p = c.requires in
    (p.0, p.1, p.0.graph.left_in _ p.2, omega (arith, c.if-time_of-ne0.false, c.time_of.ensures), refl)
