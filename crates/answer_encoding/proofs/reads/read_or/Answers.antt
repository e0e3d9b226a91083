use Rattle.std.proofs.Common.{sym, arith}
use Rattle.std.proofs.Math.ListN.{get_or-eq_default}
use Rattle.answer_encoding.proofs.reads.read_or.Goals as goal

pub returns-else-i-xs : goal.returns-else-i-xs
returns-else-i-xs g c = sym (get_or-eq_default c.args.xs.now c.args.none (omega arith))
