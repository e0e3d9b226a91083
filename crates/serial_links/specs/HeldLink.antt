-- A link as the code holds it: its measured_meaning, what a cell does to it, and what it holds after the cells of its region.
use Rattle.std.specs.Prelude.{Bool, true, false, cond, ◌&&◌, List, [], ◌∷◌, ℕ}
use Rattle.position.specs.declared.Span.{Span}
use Rattle.serial_links.specs.Limits.{Limits}
use Rattle.serial_links.specs.Geometry.{Vector, towards, dot}
use Rattle.serial_links.specs.Link.{Side, Link, no_bounds, widened}
use Rattle.serial_links.specs.Measure.{Extremes, extremes, Measured, empty, within, beyond, judged}
use Rattle.serial_links.specs.Flat.{inside_both, inside_flat}
use Rattle.serial_links.specs.Held.{centre_at}
use Rattle.serial_links.specs.declared.link.Link.{Link as LinkHeld}
use Rattle.serial_links.specs.declared.link.Measured.{Measured as MeasuredHeld}
use Rattle.serial_links.specs.declared.link.Measured.TheVariants.{Empty, Within, Beyond}

abbrev pub side : Span → ℕ → Side
side s bits = record { span = s; bits = bits }

-- The link that it is.
abbrev pub link_held : LinkHeld → Link
link_held l = record {
  centre = record { x = l.centre_x; y = l.centre_y };
  distance = l.distance;
  unit = record { x = l.unit_x; y = l.unit_y };
  normal = record { x = l.normal_x; y = l.normal_y };
  span_unit = record { x = l.span_unit_x; y = l.span_unit_y };
  span_normal = record { x = l.span_normal_x; y = l.span_normal_y };
  along = record { low = l.along_low; high = l.along_high };
  across = record { low = l.across_low; high = l.across_high };
  min_width = l.min_width;
}

-- The extremes of the cells so far.
abbrev pub extremes_in : LinkHeld → Extremes
extremes_in l = record {
  longitudinal = record { low = l.longitudinal_min; high = l.longitudinal_max };
  transverse = record { low = l.transverse_min; high = l.transverse_max };
}

-- A link with the extremes of some cells, whether they stay inside the flat envelope, and whether there is one.
abbrev pub held_link : Link → Extremes → Bool → Bool → LinkHeld
held_link k e inside seen = record {
  centre_x = k.centre.x;
  centre_y = k.centre.y;
  distance = k.distance;
  unit_x = k.unit.x;
  unit_y = k.unit.y;
  normal_x = k.normal.x;
  normal_y = k.normal.y;
  span_unit_x = k.span_unit.x;
  span_unit_y = k.span_unit.y;
  span_normal_x = k.span_normal.x;
  span_normal_y = k.span_normal.y;
  along_low = k.along.low;
  along_high = k.along.high;
  across_low = k.across.low;
  across_high = k.across.high;
  min_width = k.min_width;
  longitudinal_min = e.longitudinal.low;
  longitudinal_max = e.longitudinal.high;
  transverse_min = e.transverse.low;
  transverse_max = e.transverse.high;
  inside = inside;
  seen = seen;
}

abbrev pub no_extremes : Extremes
no_extremes = record { longitudinal = no_bounds; transverse = no_bounds }

-- Of no cell.
abbrev pub no_cell : Link → LinkHeld
no_cell k = held_link k no_extremes true false

-- Extremes with a cell at p more.
abbrev pub stretched : Link → Extremes → Vector → Extremes
stretched k e p = record {
  longitudinal = widened e.longitudinal (dot (towards k.centre p) k.unit);
  transverse = widened e.transverse (dot (towards k.centre p) k.normal);
}

-- With the cell at a column and a row more.
unfoldable pub link_with_cell : Limits → LinkHeld → ℕ → ℕ → LinkHeld
link_with_cell limits l column row =
    held_link (link_held l)
    (stretched (link_held l) (extremes_in l) (centre_at column row))
    (l.inside && inside_both limits (link_held l) (centre_at column row))
    true

-- Some cells are not none.
abbrev pub some_cell : List ℕ → Bool
some_cell [] = false
some_cell (c ∷ cs) = true

-- The link after the cells of its region, in a map of so many columns.
unfoldable pub link_after : Limits → Link → ℕ → List ℕ → LinkHeld
unfolding extremes inside_flat
link_after limits k columns cells = held_link k (extremes k columns cells) (inside_flat limits k columns cells) (some_cell cells)

-- "a definition gives this paper's number and values for each of the enum's cases"
abbrev pub measured_meaning : MeasuredHeld → Measured
measured_meaning Empty = empty
measured_meaning (Within t l) = within t l
measured_meaning (Beyond t l) = beyond t l

-- What the link measures.
unfoldable pub measured_in : Limits → LinkHeld → Measured
unfolding judged
measured_in limits l = cond l.seen (judged limits (link_held l) (extremes_in l)) empty
