use lib.Ieee.{of_bits, nan_bits}
use mathlib.Core.Path.{refl}
use Rattle.serial_links.proofs.geometry.Range.none.Goals as goal

pub float_from_bits-result : goal.float_from_bits-result
unfolding nan_bits
float_from_bits-result c = tt

pub float_from_bits-result-2 : goal.float_from_bits-result-2
unfolding nan_bits
float_from_bits-result-2 c = tt

pub returns : goal.returns
unfolding of_bits
returns c = refl
