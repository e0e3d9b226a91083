use mathlib.Core.Path.{sym, ◌∙◌}
use native.Mathlib.Omega.{arith}
use Rattle.serial_candidates.proofs.CollectLaws.{two-below, gives_found, room, added-one, added_none}
use Rattle.serial_candidates.proofs.collect.consider.Goals as goal

pub gives_link-requires : goal.gives_link-requires
gives_link-requires c =
    let p = c.requires in
    let a = c.args in
    (p.0, p.1, two-below a.owners.now a.lefts.now a.rights.now a.region p.3 c.touching_of-t.ensures)

pub offset_bounds-regions-count : goal.offset_bounds-regions-count
offset_bounds-regions-count c = omega (arith, room _ _ c.requires.4 c.touching_of-t.ensures c.gives_link.ensures c.if-gives_link.true)

pub bounds-regions-count : goal.bounds-regions-count
bounds-regions-count c = room _ _ c.requires.4 c.touching_of-t.ensures c.gives_link.ensures c.if-gives_link.true

pub offset_bounds-firsts-count : goal.offset_bounds-firsts-count
offset_bounds-firsts-count c = omega (arith, room _ _ c.requires.4 c.touching_of-t.ensures c.gives_link.ensures c.if-gives_link.true)

pub bounds-firsts-count : goal.bounds-firsts-count
bounds-firsts-count c = room _ _ c.requires.4 c.touching_of-t.ensures c.gives_link.ensures c.if-gives_link.true

pub offset_bounds-seconds-count : goal.offset_bounds-seconds-count
offset_bounds-seconds-count c = omega (arith, room _ _ c.requires.4 c.touching_of-t.ensures c.gives_link.ensures c.if-gives_link.true)

pub bounds-seconds-count : goal.bounds-seconds-count
bounds-seconds-count c = room _ _ c.requires.4 c.touching_of-t.ensures c.gives_link.ensures c.if-gives_link.true

pub overflow_add-result : goal.overflow_add-result
overflow_add-result c = omega (arith, room _ _ c.requires.4 c.touching_of-t.ensures c.gives_link.ensures c.if-gives_link.true)

pub returns-then-gives_link : goal.returns-then-gives_link
returns-then-gives_link c =
    added-one c.touching_of-t.ensures (sym (gives_found _ _ c.touching_of-t.ensures c.gives_link.ensures) ∙ c.if-gives_link.true)

pub returns : goal.returns
returns c = added_none (sym (gives_found _ _ c.touching_of-t.ensures c.gives_link.ensures) ∙ c.if-gives_link.false)
