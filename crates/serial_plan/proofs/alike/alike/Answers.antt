use mathlib.Core.Path.{refl, ◌∙◌}
use Rattle.serial_links.specs.HeldLimits.{limits_of}
use Rattle.serial_links.specs.Parallel.{nearby_parallel}
use Rattle.serial_plan.proofs.ValueLaws.{both, span_fits}
use Rattle.serial_plan.proofs.alike.alike.Goals as goal

pub nearby_parallel-requires : goal.nearby_parallel-requires
nearby_parallel-requires c =
    (span_fits c.requires.0 refl c.span_at-first.ensures, span_fits c.requires.1 refl c.span_at-second.ensures)

pub returns : goal.returns
returns c =
    c.nearby_parallel.ensures ∙ both (nearby_parallel (limits_of c.args.limits)) c.span_at-first.ensures c.span_at-second.ensures
