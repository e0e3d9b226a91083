use Rattle.context_cards.specs.Filling.{card_read}
use Rattle.context_cards.proofs.read_card.Goals as goal

pub returns : goal.returns
unfolding card_read
returns c =
    simp (
      c.read_u32.ensures,
      c.read_u32-2.ensures,
      c.read_u32-3.ensures,
      c.read_u32-4.ensures,
      c.read_u32-5.ensures,
      c.read_u32-6.ensures,
      c.read_u32-7.ensures,
      c.read_u32-8.ensures,
      c.read_u32-9.ensures,
      c.read_u32-10.ensures,
    )
