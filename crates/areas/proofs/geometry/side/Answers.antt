use Rattle.std.proofs.Common.{arith}
use Rattle.std.proofs.lemmas.Bool.Decides.{nat_tests}
use Rattle.areas.specs.Segments.{side}
use Rattle.areas.proofs.geometry.side.Goals as goal

pub returns : goal.returns
unfolding side
returns c = grind (arith, nat_tests, c.cross_minus.ensures, c.cross_plus.ensures)
