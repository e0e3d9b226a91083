use native.Mathlib.Omega.{arith}
use Rattle.answer_text.proofs.Spelling.{length_digits, decimal-writes}
use Rattle.answer_text.proofs.digits.write_decimal.Goals as goal

pub write_digits-requires : goal.write_digits-requires
write_digits-requires c =
    (omega arith, omega arith, omega (arith, c.requires, length_digits c.args.v, c.places-k.ensures))

pub overflow_add-result : goal.overflow_add-result
overflow_add-result c =
    omega (arith, c.requires, length_digits c.args.v, c.places-k.ensures)

pub returns : goal.returns
returns c =
    decimal-writes c.args.v c.places-k.ensures c.write_digits.ensures
