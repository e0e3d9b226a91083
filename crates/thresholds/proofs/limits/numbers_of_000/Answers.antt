use mathlib.Core.Path.{refl}
use Rattle.thresholds.proofs.Of000.{chain-bits, width-bits, geometry-bits, duplicate-bits, envelope-bits, cosine-bits, all-bits}
use Rattle.thresholds.proofs.limits.numbers_of_000.Goals as goal

pub float_to_bits-result : goal.float_to_bits-result
float_to_bits-result c = (chain-bits c.of_000-l.ensures).number

pub float_to_bits-result-2 : goal.float_to_bits-result-2
float_to_bits-result-2 c = (width-bits c.of_000-l.ensures).number

pub float_to_bits-result-3 : goal.float_to_bits-result-3
float_to_bits-result-3 c = (geometry-bits c.of_000-l.ensures).number

pub float_to_bits-result-4 : goal.float_to_bits-result-4
float_to_bits-result-4 c = (duplicate-bits c.of_000-l.ensures).number

pub float_to_bits-result-5 : goal.float_to_bits-result-5
float_to_bits-result-5 c = (envelope-bits c.of_000-l.ensures).number

pub float_to_bits-result-6 : goal.float_to_bits-result-6
float_to_bits-result-6 c = (cosine-bits c.of_000-l.ensures).number

pub returns : goal.returns
returns c = all-bits c.of_000-l.ensures refl refl
