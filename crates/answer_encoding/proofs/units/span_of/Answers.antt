use Rattle.answer_encoding.specs.Pieces.{key_span}
use Rattle.answer_encoding.proofs.units.span_of.Goals as goal

pub returns : goal.returns
unfolding key_span
returns c = cc
