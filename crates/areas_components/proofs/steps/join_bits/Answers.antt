use mathlib.Core.Path.{refl}
use native.Mathlib.Omega.{arith}
use Rattle.areas_components.proofs.StepLaws.{first_bit, to-right, to-left, to_below, to_last, asked, as-bit, joined-from}
use Rattle.areas_components.proofs.steps.join_bits.Goals as goal

pub join_if-requires : goal.join_if-requires
join_if-requires c =
    asked _ _ _ c.requires.3 (λ m u. u) 0 (omega arith) (first_bit c.args.byte)
    (to-right _ _)

pub join_if-requires-2 : goal.join_if-requires-2
join_if-requires-2 c =
    asked _ _ _ c.requires.3 (λ m u. c.join_if.ensures.usable m u) 1 (omega arith) refl
    (to-left _ _ c.requires.0)

pub join_if-requires-3 : goal.join_if-requires-3
join_if-requires-3 c =
    asked _ _ _ c.requires.3
    (λ m u. c.join_if-2.ensures.usable m (c.join_if.ensures.usable m u)) 2 (omega arith) refl
    (to_below _ _)

pub join_if-requires-4 : goal.join_if-requires-4
join_if-requires-4 c =
    asked _ _ _ c.requires.3
    (λ m u. c.join_if-3.ensures.usable m (c.join_if-2.ensures.usable m (c.join_if.ensures.usable m u))) 3
    (omega arith) refl (to_last _ _)

pub returns : goal.returns
returns c =
    let byte = c.args.byte in
    joined-from _ _ _
    (as-bit _ byte _ 0 (first_bit byte) (to-right _ _) c.join_if.ensures)
    (as-bit _ byte _ 1 refl (to-left _ _ c.requires.0) c.join_if-2.ensures)
    (as-bit _ byte _ 2 refl (to_below _ _) c.join_if-3.ensures)
    (as-bit _ byte _ 3 refl (to_last _ _) c.join_if-4.ensures)
