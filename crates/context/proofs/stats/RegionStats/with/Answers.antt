use Rattle.std.proofs.Common.{◌∙◌}
use Rattle.context.specs.Held.{stats_with_cell}
use Rattle.context.proofs.Counting.{one-from}
use Rattle.context.proofs.stats.RegionStats.with.Goals as goal

pub returns : goal.returns
unfolding stats_with_cell
returns c =
    simp (
      c.from-4.ensures ∙ one-from _,
      c.from-3.ensures ∙ one-from _,
      c.from-2.ensures ∙ one-from _,
      c.from.ensures ∙ one-from _,
      c.max-2.ensures,
      c.max.ensures,
      c.lesser-2.ensures,
      c.lesser.ensures,
    )
