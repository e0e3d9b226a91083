use native.Mathlib.Omega.{arith}
use Rattle.areas_components.proofs.DueBytes.{due-none, dues-end}
use Rattle.areas_components.proofs.dues.write_dues.Goals as goal

pub returns-then-n-width : goal.returns-then-n-width
returns-then-n-width c =
    dues-end (omega (arith, c.requires)) (c.write_some.ensures _ (due-none _ _ _ _))

pub returns : goal.returns
returns c =
    let one = c.write_some-2.ensures _ (due-none _ _ _ _) in
    let inner = c.write_some-3.ensures _ one in
    dues-end (omega (arith, c.requires)) (c.write_some-4.ensures _ inner)
