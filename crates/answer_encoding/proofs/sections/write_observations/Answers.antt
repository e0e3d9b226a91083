use Rattle.std.proofs.Common.{ap, ◌+◌, arith}
use Rattle.answer_encoding.specs.Pieces.{place_piece}
use Rattle.answer_encoding.proofs.Loops.{writes_start, writes-next, writes_end, places-long}
use Rattle.answer_encoding.proofs.sections.write_observations.Goals as goal

pub loop-q-init : goal.loop-q-init
loop-q-init c = writes_start _ _ _

pub write_place-requires : goal.write_place-requires
write_place-requires c = omega (arith, c.loop-q.invariant.long)

pub loop-q-preserved : goal.loop-q-preserved
loop-q-preserved c =
    let a = c.args in
    let q = c.loop-q.q in
    let long = places-long a.o.first.now a.o.second.now a.o.third.now a.o.starts.now a.o.counts.now a.o.keys.now a.seen.now in
    writes-next _ _ c.loop-q.invariant (omega (arith, long (q + 1))) (omega (arith, long q)) c.write_place.ensures
    (ap (place_piece a.o.first.now a.o.second.now a.o.third.now a.o.starts.now a.o.counts.now a.o.keys.now) c.read_or-p.ensures)

pub returns : goal.returns
returns c = writes_end c.loop-q.invariant (omega arith) (omega arith)
