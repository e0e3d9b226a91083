use Rattle.context.specs.Held.{stats_after}
use mathlib.Core.Path.{refl}
use Rattle.context.proofs.stats.RegionStats.none.Goals as goal

pub returns : goal.returns
unfolding stats_after
returns c = record { after = λ g. refl }
