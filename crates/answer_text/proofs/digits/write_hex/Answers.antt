use native.Mathlib.Omega.{arith}
use Rattle.answer_text.proofs.Spelling.{length-hex_digits, hex-writes}
use Rattle.answer_text.proofs.digits.write_hex.Goals as goal

pub write_digits-requires : goal.write_digits-requires
write_digits-requires c =
    (omega arith, omega arith, omega (arith, c.requires, length-hex_digits c.args.v))

pub returns : goal.returns
returns c =
    hex-writes c.args.v c.write_digits.ensures
