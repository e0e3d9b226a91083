use native.Mathlib.Omega.{arith}
use Rattle.serial_links.specs.Geometry.{squares}
use Rattle.serial_links.proofs.geometry.squares.Goals as goal

pub returns : goal.returns
unfolding squares
returns c =
    (simp (c.abs_diff.ensures, c.square.ensures.0, c.abs_diff-2.ensures, c.square-2.ensures.0), omega arith)
