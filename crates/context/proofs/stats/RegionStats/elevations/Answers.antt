use native.Mathlib.Omega.{arith}
use Rattle.context.specs.RegionStats.{elevations}
use Rattle.std.proofs.Common.{◌∙◌}
use Rattle.context.proofs.Counting.{one-from}
use Rattle.context.proofs.ElevationBits.{bits_are}
use Rattle.context.proofs.stats.RegionStats.elevations.Goals as goal

pub returns : goal.returns
unfolding elevations
returns c =
    let own = c.args.self in
    omega (
      arith,
      bits_are own.level_0 own.level_1 own.level_2 own.level_3,
      c.from-4.ensures ∙ one-from _,
      c.from-3.ensures ∙ one-from _,
      c.from-2.ensures ∙ one-from _,
      c.from.ensures ∙ one-from _,
    )
