use Rattle.answer_text.proofs.Spelling.{glyph-low, glyph-high}
use Rattle.answer_text.proofs.digits.glyph.Goals as goal

pub returns-then-d-lt10 : goal.returns-then-d-lt10
returns-then-d-lt10 c = glyph-low c.if-d-lt10.true

pub returns-else-d-lt10 : goal.returns-else-d-lt10
returns-else-d-lt10 c = glyph-high c.if-d-lt10.false
