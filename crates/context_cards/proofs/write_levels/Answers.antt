use mathlib.Core.Bool.{cond}
use Rattle.std.proofs.Common.{◌∙◌, arith}
use Rattle.context.proofs.Counting.{one-from}
use Rattle.context_cards.proofs.Writing.{five-written}
use Rattle.context_cards.proofs.write_levels.Goals as goal

pub returns : goal.returns
returns c =
    let given = c.args in
    let s = given.s in
    five-written given.cards.now given.at (cond s.has_ramp 1 0) s.level_0 s.level_1 s.level_2 s.level_3 (omega arith)
    c.write_u32.ensures c.write_u32-2.ensures c.write_u32-3.ensures c.write_u32-4.ensures c.write_u32-5.ensures
    (omega arith) (omega arith) (omega arith) (omega arith) (c.from-ramp.ensures ∙ one-from _) (omega arith) (omega arith) (omega arith) (omega arith)
