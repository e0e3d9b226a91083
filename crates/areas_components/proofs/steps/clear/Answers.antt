use Prim.Native.Nat.{ℕ, ◌+◌, ◌-◌}
use native.Mathlib.Omega.{arith}
use borrow.Author.Tests.{eqb-true}
use lib.ListN.{get_or}
use Rattle.areas_components.proofs.StepLaws.{most-next}
use Rattle.areas_components.proofs.steps.clear.Goals as goal

pub loop-k-preserved : goal.loop-k-preserved
loop-k-preserved c =
    let loop = c.loop-k in
    let byte : ℕ → ℕ = λ j. get_or c.args.work.now (c.args.at + j) 0 in
    (omega arith, most-next byte loop.k loop.most c.max-most.result loop.invariant.1 (omega arith) (omega arith))

pub returns : goal.returns
returns c =
    λ none k l. omega (arith, eqb-true c.loop-k.most 0 none, c.loop-k.invariant.1 k (omega arith))
