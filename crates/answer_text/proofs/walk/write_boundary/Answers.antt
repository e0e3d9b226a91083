use Rattle.answer_text.proofs.Writing.{room, next, done}
use Rattle.answer_text.proofs.Steps.{whole-start, own-inside, rest-inside, seen_few, whole-moved}
use Rattle.answer_text.proofs.walk.write_boundary.Goals as goal

pub write_boundary_line-end-requires : goal.write_boundary_line-end-requires
write_boundary_line-end-requires c =
    let a = c.args in
    room (whole-start a.answer.now a.place a.c _ _ _ c.read_boundary-b.ensures c.min-n.ensures c.min-m.ensures a.out.now c.requires.2)

pub write_sources-last-requires : goal.write_sources-last-requires
write_sources-last-requires c =
    let a = c.args in (
      own-inside a.answer.now a.place a.c _ _ _ c.read_boundary-b.ensures c.min-n.ensures c.min-m.ensures c.requires.0,
      room (next (whole-start a.answer.now a.place a.c _ _ _ c.read_boundary-b.ensures c.min-n.ensures c.min-m.ensures a.out.now c.requires.2)
          c.write_boundary_line-end.ensures),
    )

pub write_observations-requires : goal.write_observations-requires
write_observations-requires c =
    let a = c.args in (
      rest-inside a.answer.now a.place a.c _ _ _ c.read_boundary-b.ensures c.min-n.ensures c.min-m.ensures c.requires.0 _,
      seen_few a.answer.now a.place a.c _ _ _ c.read_boundary-b.ensures c.min-n.ensures c.min-m.ensures,
      room (next (next
          (whole-start a.answer.now a.place a.c _ _ _ c.read_boundary-b.ensures c.min-n.ensures c.min-m.ensures a.out.now c.requires.2)
          c.write_boundary_line-end.ensures) c.write_sources-last.ensures),
    )

pub returns : goal.returns
returns c =
    let a = c.args in
    record {
      text = done (next (next (next
          (whole-start a.answer.now a.place a.c _ _ _ c.read_boundary-b.ensures c.min-n.ensures c.min-m.ensures a.out.now c.requires.2)
          c.write_boundary_line-end.ensures) c.write_sources-last.ensures) c.write_observations.ensures.text);
      moved = whole-moved a.answer.now a.place a.c _ _ _ c.read_boundary-b.ensures c.min-n.ensures c.min-m.ensures _ _
          c.write_observations.ensures.moved;
    }
