use Rattle.std.proofs.Common.{arith}
use Rattle.answer_text.proofs.Writing.{copied}
use Rattle.answer_text.proofs.lines.write_text.Goals as goal

pub returns : goal.returns
returns c = copied _ _ _ _ c.copy_from_slice.ensures.after (omega arith)
