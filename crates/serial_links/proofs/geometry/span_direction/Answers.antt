use Rattle.serial_links.proofs.Spans.{canonical-bounded, bounded-as}
use Rattle.serial_links.proofs.geometry.span_direction.Goals as goal

pub point_distance-length-requires : goal.point_distance-length-requires
point_distance-length-requires c = let h = bounded-as c.canonical-t.ensures (canonical-bounded c.requires) in (h.first, h.second)

pub returns : goal.returns
returns c =
    simp (
      c.scaled.ensures,
      c.towards.ensures,
      c.point_of-2.ensures,
      c.point_of.ensures,
      c.point_distance-length.ensures,
      c.canonical-t.ensures,
    )
