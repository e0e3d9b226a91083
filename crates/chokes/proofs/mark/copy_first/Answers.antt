use mathlib.Core.Path.{◌∙◌, ap}
use mathlib.Core.List.{List, ◌++◌}
use Prim.Native.Nat.{ℕ}
use native.Mathlib.Omega.{arith}
use lib.ListN.{drop}
use Rattle.chokes.proofs.Copying.{copied}
use Rattle.chokes.proofs.mark.copy_first.Goals as goal

pub returns : goal.returns
returns c =
    ap (λ (l : List ℕ). l ++ drop c.args.n c.args.to.now) c.copy_from_slice.ensures.after
    ∙ copied c.args.from.now c.args.n c.args.to.now (omega (arith, c.told-from))
