use native.Mathlib.Omega.{arith}
use Rattle.areas_components.proofs.NumberLaws.{first-numbered, other-numbered}
use Rattle.areas_components.proofs.numbers.number_cell.Goals as goal

pub returns-then-p-i : goal.returns-then-p-i
returns-then-p-i c =
    let pre = c.requires in
    first-numbered _ _ _ _ _ _ _ _ _ _ pre.i_in_bounds.2 (omega (arith, pre.i_in_bounds)) c.read_u32-p.ensures
    c.walk_bit-bit.ensures.0 c.write_u32.ensures c.read_u32.ensures
    c.only-label.ensures c.write_u32-2.ensures c.if-p-i.true

pub returns-else-p-i : goal.returns-else-p-i
returns-else-p-i c =
    let pre = c.requires in
    other-numbered _ _ _ _ _ _ _ _ _ _ pre.i_in_bounds.2 (omega (arith, pre.i_in_bounds)) c.read_u32-p.ensures
    c.walk_bit-bit.ensures.0 c.write_u32.ensures c.read_u32.ensures
    c.only-label.ensures c.write_u32-2.ensures pre.i_in_bounds.3 pre.count_le_i.1 c.if-p-i.false
