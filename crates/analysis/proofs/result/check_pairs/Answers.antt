use mathlib.Core.Path.{refl}
use native.Mathlib.Omega.{arith}
use Rattle.results.specs.Returns.{many, few}
use Rattle.analysis.proofs.result.check_pairs.Goals as goal

pub returns-then-pairs-gt-MAX_PAIRS : goal.returns-then-pairs-gt-MAX_PAIRS
returns-then-pairs-gt-MAX_PAIRS c = many (omega (arith, c.if-pairs-gt-MAX_PAIRS.true)) refl refl

pub returns : goal.returns
returns c = few (omega (arith, c.if-pairs-gt-MAX_PAIRS.false)) refl refl
