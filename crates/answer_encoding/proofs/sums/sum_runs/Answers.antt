use Rattle.std.proofs.Common.{arith}
use Rattle.answer_encoding.proofs.Loops.{cited-start, cited-next, cited-end}
use Rattle.answer_encoding.proofs.sums.sum_runs.Goals as goal

pub loop-i-init : goal.loop-i-init
loop-i-init c = cited-start _ _ _ _ _

pub overflow_add-t : goal.overflow_add-t
overflow_add-t c = omega (arith, c.loop-i.invariant.small)

pub loop-i-preserved : goal.loop-i-preserved
loop-i-preserved c =
    cited-next c.args.seen.now c.args.o.starts.now c.args.o.counts.now c.args.o.keys.now c.read_or-p.result c.run_length.result (omega arith)
    c.loop-i.invariant (omega arith) c.read_or-p.ensures c.run_length.ensures

pub returns : goal.returns
returns c = cited-end c.args.seen.now c.args.o.starts.now c.args.o.counts.now c.args.o.keys.now c.loop-i.invariant (omega arith)
