use Prim.Native.Nat.{◌-◌, ◌≤◌}
use native.Mathlib.Omega.{arith}
use native.Mathlib.Nat.{mul-le-mul}
use Rattle.areas_components.proofs.DueBytes.{but-is}
use Rattle.areas_components.proofs.dues.but_not.Goals as goal

pub overflow_mul-result : goal.overflow_mul-result
overflow_mul-result c =
    let most : 1 - c.args.b ≤ 1 = omega arith in
    omega (arith, mul-le-mul c.requires.0 most)

pub returns : goal.returns
returns c =
    let most : 1 - c.args.b ≤ 1 = omega arith in
    let small = mul-le-mul c.requires.0 most in
    (but-is c.args.a c.args.b, omega arith)
