use mathlib.Core.Path.{◌≡◌}
use native.Mathlib.Omega.{arith}
use Rattle.serial_ranks.proofs.Laws.{widths-start, widths-next}
use Rattle.serial_ranks.proofs.fill_widths.Goals as goal

pub loop-i-init : goal.loop-i-init
loop-i-init c = widths-start

pub loop-i-preserved : goal.loop-i-preserved
loop-i-preserved c = widths-next c.loop-i.invariant (omega (arith, c.requires.0.few)) c.record_place-place.ensures.0 c.read_u64.ensures

pub returns : goal.returns
returns c = let e : c.loop-i.i ≡ c.args.n = omega arith in rw (← e) c.loop-i.invariant
