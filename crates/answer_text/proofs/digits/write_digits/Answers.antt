use Rattle.std.proofs.Common.{arith}
use Rattle.answer_text.proofs.Spelling.{remainder-small, spelt-start, spelt-next, spelt-end}
use Rattle.answer_text.proofs.digits.write_digits.Goals as goal

pub loop-i-init : goal.loop-i-init
loop-i-init c = spelt-start c.requires.2

pub glyph-requires : goal.glyph-requires
glyph-requires c = remainder-small _ c.requires.0 c.requires.1

pub loop-i-preserved : goal.loop-i-preserved
loop-i-preserved c = rw c.glyph.ensures (spelt-next c.loop-i.invariant (omega arith))

pub returns : goal.returns
returns c = spelt-end c.loop-i.invariant (omega arith)
