use native.Mathlib.Omega.{arith}
use Rattle.wire.proofs.Words.{number-join}
use Rattle.wire.proofs.read_u64.Goals as goal

pub returns : goal.returns
returns c =
    omega (arith, number-join 4 4 c.args.s.now c.args.at (omega arith))
