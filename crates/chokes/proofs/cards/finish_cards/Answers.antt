use mathlib.Core.Path.{refl}
use native.Mathlib.Omega.{arith}
use Rattle.analysis.proofs.Headed.{headed-laid, headed-cells}
use Rattle.analysis.proofs.Mapped.{map-inside}
use Rattle.chokes.proofs.Carded.{cards-fillable, cards-whole, cards-short}
use Rattle.chokes.proofs.cards.finish_cards.Goals as goal

pub overflow_mul-n : goal.overflow_mul-n
overflow_mul-n c = omega (arith, headed-cells c.requires.headed)

pub returns-then-cards-needed : goal.returns-then-cards-needed
returns-then-cards-needed c =
    cards-short c.requires refl (omega arith) (omega (arith, c.if-cards-needed.true))

pub slice_bounds-write_cards-end : goal.slice_bounds-write_cards-end
slice_bounds-write_cards-end c =
    let headed = c.requires.headed in
    omega (arith, map-inside headed.header (headed-laid headed) _ refl)

pub write_cards-requires : goal.write_cards-requires
write_cards-requires c =
    cards-fillable c.requires refl refl (omega (arith, c.if-cards-needed.false))

pub returns : goal.returns
returns c =
    cards-whole c.requires refl refl (omega arith) (omega (arith, c.if-cards-needed.false))
    c.write_cards.ensures
