use borrow.Author.Rules.{rules}
use Rattle.format.specs.Decode.{ramp_of}
use Rattle.answer_text.proofs.lines.write_ramp.Goals as goal

pub write_four-requires : goal.write_four-requires
unfolding ramp_of
write_four-requires c = search rules

pub returns : goal.returns
unfolding ramp_of
returns c = search rules
