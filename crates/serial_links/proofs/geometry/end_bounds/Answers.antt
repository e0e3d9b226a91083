use Rattle.serial_links.specs.Link.{widened_by}
use Rattle.serial_links.proofs.geometry.end_bounds.Goals as goal

pub returns : goal.returns
unfolding widened_by
returns c =
    simp (
      c.with_ends-2.ensures,
      c.with_ends.ensures,
      c.none.ensures,
      c.canonical-t.ensures,
      c.canonical-s.ensures,
    )
