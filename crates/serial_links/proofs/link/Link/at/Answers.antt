use Rattle.serial_links.specs.HeldLink.{link_with_cell}
use Rattle.serial_links.proofs.link.Link.at.Goals as goal

pub returns : goal.returns
unfolding link_with_cell
returns c =
    simp (
      c.max-2.ensures,
      c.min-2.ensures,
      c.max.ensures,
      c.min.ensures,
      c.still.ensures,
      c.dot-transverse.ensures,
      c.dot-longitudinal.ensures,
      c.towards-relative.ensures,
      c.cell_centre-p.ensures,
    )
