use Rattle.std.proofs.Common.{◌∙◌}
use Rattle.context.proofs.Counting.{one-from, four-levels}
use Rattle.context.specs.RegionStats.{elevation_kinds}
use Rattle.context.proofs.stats.RegionStats.elevation_kinds.Goals as goal

pub returns : goal.returns
unfolding elevation_kinds
returns c =
    let self = c.args.self in
    simp (c.from-4.ensures ∙ one-from _, c.from-3.ensures ∙ one-from _, c.from-2.ensures ∙ one-from _, c.from.ensures ∙ one-from _)
    (four-levels self.level_0 self.level_1 self.level_2 self.level_3)
