use Rattle.serial_links.specs.Link.{link_of}
use Rattle.serial_links.proofs.link.link_of.Goals as goal

pub returns : goal.returns
unfolding link_of
returns c =
    simp (
      c.min.ensures,
      c.width_of-2.ensures,
      c.width_of.ensures,
      c.centre_distance.ensures,
      c.none-none.ensures,
      c.end_bounds-across.ensures,
      c.end_bounds-along.ensures,
      c.turned-span_normal.ensures,
      c.span_direction-span_unit.ensures,
      c.turned-normal.ensures,
      c.link_direction-unit.ensures,
      c.centre_of-centre.ensures,
    )
