use mathlib.Core.Path.{refl, ◌∙◌}
use Rattle.serial_links.specs.Geometry.{centre_length}
use Rattle.serial_plan.proofs.ValueLaws.{both, span_fits}
use Rattle.serial_plan.proofs.chain.rank_distance.Goals as goal

pub centre_distance-requires : goal.centre_distance-requires
centre_distance-requires c =
    (span_fits c.requires.0 refl c.span_at.ensures, span_fits c.requires.1 refl c.span_at-2.ensures)

pub returns : goal.returns
returns c = c.centre_distance.ensures ∙ both centre_length c.span_at.ensures c.span_at-2.ensures
