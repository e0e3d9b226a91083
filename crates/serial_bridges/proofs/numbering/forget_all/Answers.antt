use mathlib.Core.Path.{◌≡◌, subst}
use native.Mathlib.Omega.{arith}
use Rattle.serial_bridges.specs.Names.{Forgotten}
use Rattle.serial_bridges.proofs.numbering.forget_all.Goals as goal

pub returns : goal.returns
returns c =
    let e : c.loop-k.k ≡ c.args.count = omega arith in
    λ s f. subst (Forgotten _ _ _ _ _ s _) e (c.loop-k.invariant.forgotten s f)
