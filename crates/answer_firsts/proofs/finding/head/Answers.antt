use Rattle.answer_firsts.specs.Links.{head_of}
use mathlib.Core.Path.{ap}
use Prim.Native.Nat.{ℕ, ◌*◌, ◌/◌}
use native.Mathlib.Nat.{mul-le-mul}
use native.Mathlib.Omega.{arith}
use Rattle.answer_firsts.proofs.finding.head.Goals as goal

pub overflow_mul-result : goal.overflow_mul-result
overflow_mul-result c =
    let most = mul-le-mul c.mixed.ensures.1 c.requires in
    omega arith

pub returns : goal.returns
unfolding head_of
returns c =
    ap (λ (m : ℕ). m * c.args.heads / 0x4000) c.mixed.ensures.0
