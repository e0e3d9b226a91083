use mathlib.Core.Path.{◌≡◌, ◌∙◌, ap}
use native.Mathlib.Omega.{arith}
use Rattle.position.specs.Order.{canonical}
use Rattle.serial_ranks.proofs.Laws.{keys-start, keys-next}
use Rattle.serial_ranks.proofs.fill_keys.Goals as goal

pub loop-i-init : goal.loop-i-init
loop-i-init c = keys-start c.requires.2 c.requires.3

pub loop-i-preserved : goal.loop-i-preserved
loop-i-preserved c =
    keys-next c.loop-i.invariant (omega arith) (c.canonical-ends.ensures ∙ ap canonical c.read_span.ensures) c.pack.ensures c.pack-in-loop-i.ensures

pub returns : goal.returns
returns c = let e : c.loop-i.i ≡ c.args.n = omega arith in rw (← e) c.loop-i.invariant
