use mathlib.Core.Path.{refl}
use mathlib.Core.Bool.{cond}
use mathlib.Core.List.{[], ◌∷◌}
use native.Mathlib.Omega.{arith}
use Rattle.context.specs.Cards.{card_words}
use Rattle.context_cards.proofs.Writing.{card-written}
use Rattle.context_cards.proofs.write_card.Goals as goal

pub returns : goal.returns
unfolding card_words
returns c =
    let given = c.args in
    let s = given.s in
    card-written given.cards.now given.at (s.cells ∷ s.min_x ∷ s.min_y ∷ s.max_x ∷ s.max_y ∷ [])
    (cond s.has_ramp 1 0 ∷ s.level_0 ∷ s.level_1 ∷ s.level_2 ∷ s.level_3 ∷ []) s refl (omega arith)
    c.write_box.ensures c.write_levels.ensures (omega arith) refl
