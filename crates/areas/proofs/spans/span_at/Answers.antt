use mathlib.Core.Path.{refl}
use Rattle.areas.specs.Spans.{span_in}
use Rattle.areas.proofs.spans.span_at.Goals as goal

pub returns : goal.returns
unfolding span_in
returns c = refl
