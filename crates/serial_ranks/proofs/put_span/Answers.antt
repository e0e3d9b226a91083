use mathlib.Core.Path.{refl}
use Rattle.serial_ranks.specs.Tables.{put_span}
use Rattle.serial_ranks.proofs.put_span.Goals as goal

pub returns : goal.returns
unfolding put_span
returns c = refl
