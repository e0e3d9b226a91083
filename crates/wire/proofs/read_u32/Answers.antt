use native.Mathlib.Omega.{arith}
use Rattle.wire.proofs.Words.{four_bytes}
use borrow.Author.Rules.{rules}
use Rattle.wire.proofs.read_u32.Goals as goal

pub returns : goal.returns
returns c =
    omega (arith, four_bytes c.args.s.now c.args.at (search rules))
