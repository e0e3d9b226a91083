use native.Mathlib.Omega.{arith}
use Rattle.marks_closing.proofs.forest.Forest.hang.Goals as goal

pub raised_over-requires : goal.raised_over-requires
raised_over-requires c =
    omega (arith, c.requires.0.low c.args.high c.requires.2, c.requires.0.few)

pub returns-clause-hung : goal.returns-clause-hung
returns-clause-hung c = rw c.raised_over.ensures
