use native.Mathlib.Omega.{arith}
use Rattle.label_table.proofs.Table.{read-at-place}
use Rattle.label_table.proofs.word_of.Goals as goal

pub returns : goal.returns
returns c = read-at-place _ c.read_u32.ensures (omega arith)
