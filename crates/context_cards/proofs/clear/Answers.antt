use mathlib.Core.Path.{◌≡◌, ◌∙◌, ap}
use Prim.Native.Nat.{ℕ, ◌-◌}
use native.Mathlib.Omega.{arith}
use lib.ListN.{replicate}
use Rattle.wire.specs.Bytes.{splice}
use Rattle.context_cards.proofs.clear.Goals as goal

pub returns : goal.returns
returns c =
    let given = c.args in
    let whole : given.to - 0 ≡ given.to = omega arith in
    record { zeros = c.zero_fill.ensures ∙ ap (λ (k : ℕ). splice given.cards.now 0 (replicate k 0)) whole }
