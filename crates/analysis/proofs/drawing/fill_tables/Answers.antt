use mathlib.Core.Path.{refl}
use Rattle.analysis.proofs.Merges.{plan-records, own-array, widths-array, ramps-array}
use Rattle.analysis.proofs.drawing.fill_tables.Goals as goal

pub fill_spans-requires : goal.fill_spans-requires
fill_spans-requires c =
    (plan-records c.requires.0 _ _ refl refl, c.requires.1)

pub fill_widths-requires : goal.fill_widths-requires
fill_widths-requires c =
    (plan-records c.requires.0 _ _ refl refl, c.requires.2)

pub fill_ramps-requires : goal.fill_ramps-requires
fill_ramps-requires c =
    (plan-records c.requires.0 _ _ refl refl, c.requires.3)

pub returns : goal.returns
returns c =
    let p = c.requires.0 in
    record {
      ends = own-array p refl refl c.fill_spans.ensures;
      widths = widths-array p refl refl c.fill_widths.ensures;
      ramp-ends = ramps-array p refl refl c.fill_ramps.ensures;
    }
