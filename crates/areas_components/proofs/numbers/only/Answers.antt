use native.Mathlib.Nat.{mul-le-mul_left}
use native.Mathlib.Omega.{arith}
use Rattle.areas_components.proofs.NumberLaws.{only-is}
use Rattle.areas_components.proofs.numbers.only.Goals as goal

pub overflow_mul-result : goal.overflow_mul-result
overflow_mul-result c = omega (arith, mul-le-mul_left c.args.x c.requires)

pub returns : goal.returns
returns c = only-is c.args.bit c.args.x c.requires
