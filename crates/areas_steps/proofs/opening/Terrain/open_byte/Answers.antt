use Rattle.std.proofs.Common.{[], ◌∙◌, ap}
use Rattle.areas.specs.Open.{bit_of}
use Rattle.areas_steps.proofs.Bits.{byte-from, bit-from, open_none}
use Rattle.areas_steps.proofs.opening.Terrain.open_byte.Goals as goal

pub returns : goal.returns
returns c =
    byte-from _ _ [] _ _ _ _ _ (c.from.ensures ∙ bit-from _ ∙ ap bit_of (c.opens-right.ensures ∙ open_none _ _ _ 0))
    (c.from-2.ensures ∙ bit-from _ ∙ ap bit_of (c.opens-below_left.ensures ∙ open_none _ _ _ 1))
    (c.from-3.ensures ∙ bit-from _ ∙ ap bit_of (c.opens-below.ensures ∙ open_none _ _ _ 2))
    (c.from-4.ensures ∙ bit-from _ ∙ ap bit_of (c.opens-below_right.ensures ∙ open_none _ _ _ 3))
