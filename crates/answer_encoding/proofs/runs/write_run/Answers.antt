use Rattle.std.proofs.Common.{◌+◌, arith}
use Rattle.answer_encoding.proofs.Loops.{writes_start, writes-next, writes_end, key-is, run_long}
use Rattle.answer_encoding.proofs.runs.write_run.Goals as goal

pub loop-i-init : goal.loop-i-init
loop-i-init c = writes_start _ _ _

pub loop-i-preserved : goal.loop-i-preserved
loop-i-preserved c =
    let i = c.loop-i.i in
    let long = run_long c.args.keys.now c.args.from in
    writes-next _ _ c.loop-i.invariant (omega (arith, long (i + 1))) (omega (arith, long i)) c.write_source.ensures
    (key-is c.args.keys.now (c.args.from + i) c.read_or.ensures)

pub returns : goal.returns
returns c = writes_end c.loop-i.invariant (omega arith) (omega arith)
