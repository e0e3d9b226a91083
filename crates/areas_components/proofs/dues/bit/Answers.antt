use native.Mathlib.Omega.{arith}
use Rattle.areas_components.proofs.DueBytes.{bit_is}
use Rattle.areas_components.proofs.dues.bit.Goals as goal

pub returns : goal.returns
returns c = (bit_is c.args.x, omega arith)
