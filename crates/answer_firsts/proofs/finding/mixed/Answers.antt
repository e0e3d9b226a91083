use Rattle.answer_firsts.specs.Links.{mix}
use mathlib.Core.Path.{refl}
use native.Mathlib.Omega.{arith}
use Rattle.answer_firsts.proofs.finding.mixed.Goals as goal

pub returns : goal.returns
unfolding mix
returns c = (refl, omega arith)
