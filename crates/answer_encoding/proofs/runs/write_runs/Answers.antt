use Rattle.std.proofs.Common.{arith}
use Rattle.answer_encoding.proofs.Loops.{running-start, run_room, running-next, running-end}
use Rattle.answer_encoding.proofs.runs.write_runs.Goals as goal

pub loop-i-init : goal.loop-i-init
loop-i-init c = running-start _ _ _ _ _ _ _ _

pub write_run-requires : goal.write_run-requires
write_run-requires c = (
  run_room c.loop-i.invariant c.requires.0 (omega arith) c.read_or-p.ensures c.read_or.ensures c.run_length-count.ensures,
  omega arith,
  omega arith,
)

pub overflow_add-to : goal.overflow_add-to
overflow_add-to c =
    omega (
      arith,
      run_room c.loop-i.invariant c.requires.0 (omega arith) c.read_or-p.ensures c.read_or.ensures c.run_length-count.ensures,
    )

pub loop-i-preserved : goal.loop-i-preserved
loop-i-preserved c =
    running-next c.loop-i.invariant c.requires.0 (omega arith) c.read_or-p.ensures c.read_or.ensures c.run_length-count.ensures c.write_run.ensures

pub returns : goal.returns
returns c = running-end c.loop-i.invariant (omega arith)
