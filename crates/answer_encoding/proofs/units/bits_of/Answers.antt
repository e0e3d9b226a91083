use Rattle.std.proofs.Common.{arith}
use borrow.Author.Tests.{lt-ltb, le-ltb}
use Rattle.answer_encoding.specs.Pieces.{key_bits}
use Rattle.answer_encoding.proofs.units.bits_of.Goals as goal

pub returns-then-v-lt9223372036854775808 : goal.returns-then-v-lt9223372036854775808
unfolding key_bits
returns-then-v-lt9223372036854775808 c = simp (lt-ltb _ _ c.if-v-lt9223372036854775808.true)

pub returns-else-v-lt9223372036854775808 : goal.returns-else-v-lt9223372036854775808
unfolding key_bits
returns-else-v-lt9223372036854775808 c =
    simp (le-ltb _ _ c.if-v-lt9223372036854775808.false, lt-ltb c.args.v 0x1_0000_0000_0000_0000 (omega arith))
