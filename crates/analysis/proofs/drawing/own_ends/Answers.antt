use mathlib.Core.Path.{refl}
use Rattle.analysis.proofs.OwnEnds.{own-order, own_put}
use Rattle.analysis.proofs.drawing.own_ends.Goals as goal

pub fill_spans-requires : goal.fill_spans-requires
fill_spans-requires c = (
  own-order c.requires.0 refl refl c.fill_identity.ensures,
  c.requires.1,
)

pub returns : goal.returns
returns c =
    own_put c.requires.0 refl refl c.fill_identity.ensures
    c.fill_spans.ensures
