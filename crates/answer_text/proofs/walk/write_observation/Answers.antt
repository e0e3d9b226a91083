use Rattle.answer_text.proofs.Writing.{room, next, done}
use Rattle.answer_text.proofs.Steps.{here-start, here-sources, here-moved}
use Rattle.answer_text.proofs.walk.write_observation.Goals as goal

pub write_observation_line-end-requires : goal.write_observation_line-end-requires
write_observation_line-end-requires c =
    room (here-start c.args.answer.now c.args.c _ _ c.read_observation-o.ensures c.min-n.ensures c.args.out.now c.requires.2)

pub write_sources-last-requires : goal.write_sources-last-requires
write_sources-last-requires c = (
  here-sources c.args.answer.now c.args.c _ _ c.read_observation-o.ensures c.min-n.ensures c.requires.0,
  room (next (here-start c.args.answer.now c.args.c _ _ c.read_observation-o.ensures c.min-n.ensures c.args.out.now c.requires.2)
      c.write_observation_line-end.ensures),
)

pub returns : goal.returns
returns c =
    record {
      text = done (next (next (here-start c.args.answer.now c.args.c _ _ c.read_observation-o.ensures c.min-n.ensures c.args.out.now c.requires.2)
          c.write_observation_line-end.ensures) c.write_sources-last.ensures);
      moved = here-moved c.args.answer.now c.args.c _ _ c.read_observation-o.ensures c.min-n.ensures c.requires.0 c.requires.1 _;
    }
