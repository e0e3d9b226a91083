use Rattle.std.proofs.Common.{rules}
use Rattle.areas_components.proofs.CountLaws.{zeros_put}
use Rattle.areas_components.proofs.counts.zero_fill.Goals as goal

pub returns : goal.returns
returns c = zeros_put _ _ _ _ c.requires.0 c.requires.1 (c.fill.ensures.after (λ y e. search rules))
