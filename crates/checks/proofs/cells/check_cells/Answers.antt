use native.Mathlib.Omega.{arith}
use borrow.Author.Tests.{le-leb, lt-leb}
use Rattle.checks.proofs.Firsts.{clean-start, clean-next, clean_found, clean_end, clear, stop}
use Rattle.checks.specs.Single.{cell_check}
use Rattle.checks.proofs.cells.check_cells.Goals as goal

pub loop-i-init : goal.loop-i-init
loop-i-init c = clean-start _ _

pub returns-then-job-i-ge-CELL_LIMIT : goal.returns-then-job-i-ge-CELL_LIMIT
unfolding cell_check
returns-then-job-i-ge-CELL_LIMIT c =
    let inv = c.loop-i.invariant in
    clean_found inv (omega arith) (stop _ _ (le-leb _ _ c.if-job-i-ge-CELL_LIMIT.true))

pub loop-i-preserved : goal.loop-i-preserved
unfolding cell_check
loop-i-preserved c =
    let inv = c.loop-i.invariant in
    clean-next inv (omega arith) (clear _ (lt-leb _ _ c.if-job-i-ge-CELL_LIMIT.false))

pub returns : goal.returns
returns c = clean_end c.loop-i.invariant c.loop-i-test.false
