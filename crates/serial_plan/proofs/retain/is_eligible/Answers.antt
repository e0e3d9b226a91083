use mathlib.Core.Path.{◌∙◌, ap}
use lib.Ieee.{Float, le}
use Rattle.length.specs.Floats.{◌⊕◌}
use Rattle.serial_links.specs.HeldLimits.{limits_of}
use Rattle.serial_plan.proofs.retain.is_eligible.Goals as goal

pub returns : goal.returns
returns c =
    c.eligible.ensures ∙ ap (λ (w : Float). le w (c.args.least ⊕ (limits_of c.args.limits).width)) c.width_of.ensures
