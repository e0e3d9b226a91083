use mathlib.Core.Path.{◌≡◌, ◌∙◌, ap}
use native.Mathlib.Omega.{arith}
use Rattle.position.specs.Order.{canonical}
use Rattle.serial_ranks.proofs.Laws.{spans-start, spans-next}
use Rattle.serial_ranks.proofs.fill_spans.Goals as goal

pub loop-i-init : goal.loop-i-init
loop-i-init c = spans-start

pub loop-i-preserved : goal.loop-i-preserved
loop-i-preserved c =
    rw c.put_span.ensures (spans-next c.loop-i.invariant (omega (arith, c.requires.0.few)) c.record_place-place.ensures.0
    (c.canonical.ensures ∙ ap canonical c.read_span.ensures))

pub returns : goal.returns
returns c = let e : c.loop-i.i ≡ c.args.n = omega arith in rw (← e) c.loop-i.invariant
