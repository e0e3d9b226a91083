use native.Mathlib.Omega.{arith}
use Rattle.label_table.proofs.Table.{put-at-place}
use Rattle.label_table.proofs.put_word.Goals as goal

pub returns : goal.returns
returns c =
    put-at-place _ _ c.write_u32.ensures (omega arith)
