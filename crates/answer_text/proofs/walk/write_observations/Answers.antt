use Rattle.std.proofs.Common.{arith}
use Rattle.answer_text.proofs.Steps.{observations-start, some_left, observation-room, observations-next, observations-written, observations-moved}
use Rattle.answer_text.proofs.walk.write_observations.Goals as goal

pub loop-i-init : goal.loop-i-init
loop-i-init c = observations-start _ _ _ _ c.requires.0 c.requires.1 c.requires.2

pub write_observation-d-requires : goal.write_observation-d-requires
write_observation-d-requires c =
    let inv = c.loop-i.invariant in
    (inv.inside, some_left _ _ _ _ inv (omega arith), observation-room _ _ _ _ inv (omega arith))

pub loop-i-preserved : goal.loop-i-preserved
loop-i-preserved c =
    observations-next _ _ _ _ c.loop-i.invariant (omega arith) _ c.write_observation-d.ensures.text c.write_observation-d.ensures.moved

pub returns : goal.returns
returns c =
    record {
      text = observations-written _ _ _ _ c.loop-i.invariant (omega arith);
      moved = observations-moved _ _ _ _ c.loop-i.invariant (omega arith);
    }
