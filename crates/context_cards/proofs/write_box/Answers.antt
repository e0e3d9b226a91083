use native.Mathlib.Omega.{arith}
use Rattle.context_cards.proofs.Writing.{five-written}
use Rattle.context_cards.proofs.write_box.Goals as goal

pub returns : goal.returns
returns c =
    let given = c.args in
    let s = given.s in
    five-written given.cards.now given.at s.cells s.min_x s.min_y s.max_x s.max_y (omega arith)
    c.write_u32.ensures c.write_u32-2.ensures c.write_u32-3.ensures c.write_u32-4.ensures c.write_u32-5.ensures
    (omega arith) (omega arith) (omega arith) (omega arith) (omega arith) (omega arith) (omega arith) (omega arith) (omega arith)
