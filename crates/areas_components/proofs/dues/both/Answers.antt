use native.Mathlib.Omega.{arith}
use native.Mathlib.Nat.{mul-le-mul}
use Rattle.areas_components.proofs.DueBytes.{both_is}
use Rattle.areas_components.proofs.dues.both.Goals as goal

pub overflow_mul-result : goal.overflow_mul-result
overflow_mul-result c = omega (arith, mul-le-mul c.requires.0 c.requires.1)

pub returns : goal.returns
returns c =
    let small = mul-le-mul c.requires.0 c.requires.1 in
    (both_is c.args.a c.args.b, omega arith)
