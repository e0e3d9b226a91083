use Rattle.checks.proofs.Firsts.{Clean}
use Rattle.checks.specs.Single.{cell_check}
use Rattle.checks.proofs.cells.check_cells.Given as goal

abbrev pub invariant-loop-i : goal.invariant-loop-i
invariant-loop-i l = Clean (cell_check l.job) l.n l.i
