use mathlib.Core.Path.{refl}
use native.Mathlib.Omega.{arith}
use Rattle.serial_candidates.specs.Next.{next_after}
use Rattle.serial_candidates.proofs.StepLaws.{region-next, region-end}
use Rattle.serial_candidates.proofs.regions.next_region.Goals as goal

pub loop-i-init : goal.loop-i-init
unfolding next_after
loop-i-init c = record { least = refl; small = omega arith }

pub loop-i-preserved : goal.loop-i-preserved
loop-i-preserved c =
    let e = c.considered-best.ensures in
    record { least = region-next _ _ _ _ _ c.loop-i.invariant.least e.0; small = e.1 }

pub returns : goal.returns
returns c =
    let inv = c.loop-i.invariant in
    (region-end _ _ _ _ {k = c.loop-i.i} {n = c.args.n} (omega arith) inv.least, inv.small)
