use mathlib.Core.Path.{sym}
use native.Mathlib.Omega.{arith}
use lib.Seq.{length-take-le}
use Rattle.serial_plan.proofs.ReadyLaws.{readable, findable, measurable, links-found}
use Rattle.serial_plan.proofs.planning.measured_links.Goals as goal

pub anchor_labels-anchored-requires : goal.anchor_labels-anchored-requires
anchor_labels-anchored-requires c = (readable c.requires, omega (arith, c.requires.few-bases))

pub slice_bounds-candidate_links-end : goal.slice_bounds-candidate_links-end
slice_bounds-candidate_links-end c = sym (length-take-le c.anchor_labels-anchored.result _ c.anchor_labels-anchored.ensures.fits)

pub candidate_links-links-requires : goal.candidate_links-links-requires
candidate_links-links-requires c = findable c.requires

pub measure_links-requires : goal.measure_links-requires
measure_links-requires c =
    measurable c.requires c.anchor_labels-anchored.ensures c.candidate_links-links.ensures

pub returns : goal.returns
returns c =
    record {
      work = c.measure_links.ensures.work;
      links = links-found c.requires c.anchor_labels-anchored.ensures c.candidate_links-links.ensures c.measure_links.ensures.marks;
    }
