use native.Mathlib.Omega.{arith}
use borrow.Author.Tests.{lt-ltb, le-ltb}
use Rattle.length.specs.Total.{total_key}
use Rattle.length.proofs.floats.total_key.Goals as goal

pub returns-then-bits-lt9223372036854775808 : goal.returns-then-bits-lt9223372036854775808
unfolding total_key
returns-then-bits-lt9223372036854775808 c = simp (lt-ltb _ _ c.if-bits-lt9223372036854775808.true)

pub returns-else-bits-lt9223372036854775808 : goal.returns-else-bits-lt9223372036854775808
unfolding total_key
returns-else-bits-lt9223372036854775808 c = simp (le-ltb _ _ c.if-bits-lt9223372036854775808.false, lt-ltb c.args.bits 0x1_0000_0000_0000_0000 (omega arith))
