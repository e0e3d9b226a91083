use native.Mathlib.Omega.{arith}
use Rattle.answer_text.proofs.Writing.{byte-writes}
use Rattle.answer_text.proofs.lines.write_byte.Goals as goal

pub returns : goal.returns
returns c = byte-writes _ _ _ (omega (arith, c.requires))
