use Rattle.std.proofs.Common.{ap, ◌∙◌, ◌+◌, arith}
use Rattle.wire.specs.Bytes.{splice}
use Rattle.answer_encoding.proofs.Loops.{writes_start, writes-next, writes_end}
use Rattle.answer_encoding.proofs.Owns.{own-moved, moved-flat, pieces-long}
use Rattle.answer_encoding.proofs.own.write_places.Goals as goal

pub loop-i-init : goal.loop-i-init
loop-i-init c = writes_start _ _ _

pub loop-i-preserved : goal.loop-i-preserved
loop-i-preserved c =
    let a = c.args in
    let i = c.loop-i.i in
    let long = pieces-long a.job.now a.from a.owned.now a.a in
    writes-next _ _ c.loop-i.invariant (omega (arith, long (i + 1), c.requires.room)) (omega (arith, long i)) c.write_u64.ensures
    (own-moved a.job.now a.from a.owned.now a.a i (λ k. omega (arith, c.type_inv.job k)) (c.requires.inside i (omega arith)) c.read_or.ensures
    c.read_u64.ensures)

pub returns : goal.returns
returns c =
    let a = c.args in
    writes_end c.loop-i.invariant (omega arith) (omega arith) ∙ ap (splice a.s.now a.at) (moved-flat a.job.now a.from a.owned.now a.a a.n)
