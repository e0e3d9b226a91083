use mathlib.Core.Path.{ap}
use mathlib.Core.Bool.{Bool, ◌&&◌}
use lib.Dec.{eqb}
use Rattle.serial_plan.proofs.ValueLaws.{both}
use Rattle.serial_plan.proofs.select.is_flat_link.Goals as goal

pub returns : goal.returns
returns c =
    ap (λ (t : Bool). eqb c.args.flat 1 && t)
    (both ◌&&◌ (both ◌&&◌ c.is_free.ensures c.is_free-2.ensures) c.alike-near.ensures)
