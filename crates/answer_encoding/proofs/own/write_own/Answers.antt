use Rattle.std.proofs.Common.{arith}
use Rattle.answer_encoding.proofs.Owns.{sorted-at, own-sorted}
use Rattle.answer_encoding.proofs.own.write_own.Goals as goal

pub returns : goal.returns
returns c =
    own-sorted c.requires (λ i. omega (arith, c.type_inv.job i)) (λ i. omega (arith, c.type_inv.s i)) c.write_places.ensures
    (sorted-at c.sort_sources.ensures (omega arith) (omega arith))
