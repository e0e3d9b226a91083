use Rattle.answer_sources.specs.Placed.{boundary_rows}
use Rattle.answer_encoding.specs.Pieces.{kept_piece}
use Rattle.answer_encoding.proofs.Loops.{Writes}
use Rattle.answer_encoding.proofs.sections.write_boundaries.Given as goal

abbrev pub invariant-loop-k : goal.invariant-loop-k
invariant-loop-k l = Writes l.initial.s l.to (kept_piece (boundary_rows l.job l.at) l.kept l.owns l.seens) l.k l.s
