use mathlib.Core.Path.{◌≡◌, sym, ◌∙◌, ap}
use Prim.Native.Nat.{ℕ, ◌*◌}
use native.Mathlib.Nat.{zero-mul, mul_comm}
use native.Mathlib.Omega.{arith}
use lib.ListN.{length}
use Rattle.areas_steps.proofs.Filled.{held_none, held-count, held-splice}
use Rattle.areas_steps.proofs.opening.open_steps.Goals as goal

pub loop-y-init : goal.loop-y-init
loop-y-init c = held-count _ (sym (zero-mul c.args.width)) (held_none _ _ _)

pub returns : goal.returns
returns c =
    let w = c.args.width in
    let h = c.args.height in
    let cs = c.args.cells.now in
    let e : c.loop-y.y ≡ h = omega (arith, c.loop-y.auto.y-end, c.loop-y-test.false) in
    let n : c.loop-y.y * w ≡ length cs = ap (λ (k : ℕ). k * w) e ∙ mul_comm h w ∙ sym c.requires.1 in
    held-splice _ _ _ _ (omega (arith, c.requires.1)) (held-count _ n c.loop-y.invariant)
