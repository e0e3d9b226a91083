use Rattle.std.proofs.Common.{◌+◌, arith}
use Rattle.answer_sources.specs.Placed.{boundary_rows}
use Rattle.answer_encoding.proofs.Loops.{writes_start, writes-next, writes_end, kept-is, kept-long}
use Rattle.answer_encoding.proofs.sections.write_boundaries.Goals as goal

pub loop-k-init : goal.loop-k-init
loop-k-init c = writes_start _ _ _

pub loop-k-preserved : goal.loop-k-preserved
loop-k-preserved c =
    let a = c.args in
    let k = c.loop-k.k in
    let long = kept-long (boundary_rows a.job.now a.at) a.kept.now a.owns.now a.seens.now in
    writes-next _ _ c.loop-k.invariant (omega (arith, c.requires.room, long (k + 1))) (omega (arith, long k)) c.write_boundary.ensures
    (kept-is a.job.now a.at a.kept.now a.owns.now a.seens.now k c.read_boundary-x.ensures c.read_or-b.ensures c.read_or-own.ensures
    c.read_or-seen.ensures)

pub returns : goal.returns
returns c = writes_end c.loop-k.invariant (omega arith) (omega arith)
